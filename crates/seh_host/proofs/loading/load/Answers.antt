use Rattle.std.proofs.Common.{◌≡◌, ◌+◌, sym, ap, subst, ◌∙◌, w64, to_z, of_z}
use Rattle.std.proofs.lemmas.Int.{to_z-of_z}
use Rattle.seh_host.specs.Words.{memory_of, Functions, first_cpu, start, Live, host, over}
use Rattle.x64_machine.specs.Effect.{State}
use Rattle.host_model.specs.Funclets.{funclets}
use Rattle.seh_dispatch.specs.Filters.{Admits}
use Rattle.seh_host.proofs.AsLoaded.{place_above}
use Rattle.seh_host.proofs.Loaded.{functions_read}
use Rattle.seh_host.proofs.loading.load.Goals as goal

pub returns-clause-loaded : goal.returns-clause-loaded
unfolding start
returns-clause-loaded c =
    let image = c.args.image.now in
    let cpu = c.first_cpu.ensures ∙ ap (λ n. first_cpu n (to_z w64 (of_z w64 c.args.arg)))
    (ap (λ b. b + c.entry.result) c.base.ensures ∙ ap (λ n. image.base + n) c.entry.ensures.value)
    ∙ ap (first_cpu (image.base + image.entry))
    (to_z-of_z w64 c.args.arg (record { sfits = c.ranges.arg.sfits })) in
    let memory = c.in-Ok.ensures in
    let functions = functions_read image c.in_ok-tables.tables (c.in_ok-tables.ensures.read).0
    (c.in_ok-tables.ensures.read).1 in
    let listed = c.in-Ok-funclets_in.ensures.items
    ∙ ap (λ (t : Functions). funclets t.entries) functions in
    let first : State = record {
      cpu = c.first_cpu.result;
      memory = memory_of c.in-Ok.space;
      vectored = c.new-3.result;
    } in
    let going : Live first ≡ host (start image c.args.arg) =
    (λ i. Live (record { cpu = cpu i; memory = memory i; vectored = c.new-3.ensures i }))
    ∙ sym (ap (over (start image c.args.arg))
    (place_above image image.entry c.in_ok-names.ensures.place)) in
    λ i. record { functions = functions i; funclets = listed i; host = going i }

pub invariant_of-result-clause-coherent : goal.invariant_of-result-clause-coherent
invariant_of-result-clause-coherent c =
    λ e. c.in-Ok-new-2.ensures (memory_of c.in-Ok.space)

pub invariant_of-result-clause-admitted : goal.invariant_of-result-clause-admitted
invariant_of-result-clause-admitted c =
    subst (Admits c.in-Ok-new.filter) c.deref.ensures.value c.in-Ok-new.ensures
