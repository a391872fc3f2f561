use Rattle.std.proofs.Common.{sym, ap, subst}
use Rattle.host_layout.specs.declared.imported.ImportedService.TheVariants.{RaiseException, LocalUnwind, Protect, Put, Walk}
use Rattle.x64_emit.specs.declared.links.Thunks.{Thunks}
use Rattle.image_link.specs.Words.{ImportedService, IsNear}
use Rattle.x64_emit.specs.Linking.{AreStubsNear}
use Rattle.image_link.proofs.Front.{thunk_near}
use Rattle.image_link.proofs.Blocks.{adding_near, removing_near}
use Rattle.image_link.proofs.text.links_of.Goals as goal

pub new-requires : goal.new-requires
new-requires c =
    let thunks = c.thunks_at.ensures in
    let near = λ (v : ImportedService). thunk_near c.args.imports.now c.args.text v
    c.requires.imports c.requires.text in
    record {
      labels = c.requires.labels;
      end = c.requires.end;
      functions = c.requires.functions;
      funclets = c.requires.funclets;
      put = subst IsNear (sym (ap (λ (t : Thunks). t.put) thunks)) (near Put);
      protect = subst IsNear (sym (ap (λ (t : Thunks). t.protect) thunks)) (near Protect);
      raise_exception = subst IsNear (sym (ap (λ (t : Thunks). t.raise_exception) thunks))
          (near RaiseException);
      local_unwind = subst IsNear (sym (ap (λ (t : Thunks). t.local_unwind) thunks))
          (near LocalUnwind);
      walk = subst IsNear (sym (ap (λ (t : Thunks). t.walk) thunks)) (near Walk);
      adding = subst AreStubsNear (sym (ap (λ (t : Thunks). t.adding) thunks))
          (adding_near c.args.blocks c.requires.blocks);
      removing = subst AreStubsNear (sym (ap (λ (t : Thunks). t.removing) thunks))
          (removing_near c.args.blocks c.requires.blocks);
    }
