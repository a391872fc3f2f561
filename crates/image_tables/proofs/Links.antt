-- What the code of a routine refers to is in the image.
use Rattle.std.proofs.Common.{ℕ, ◌+◌, ◌≤◌, [], length, arith}
use Rattle.image_tables.specs.Words.{BuiltIn, LinearProgram, FitsProgram, routines, routine_size, entry_size, text_begin, linked, Placed, site_of, links, IsNear, MOST_IMAGE, thunk_of, thunks_at, near_end, services_of}
use Rattle.host_layout.specs.declared.imported.ImportedService.TheVariants as imports
use Rattle.c_operations.specs.declared.built_in.BuiltIn.TheVariants.{Put, Protect, RaiseException, Walk, AddVectored, RemoveVectored}
use Rattle.image_tables.proofs.Lemmas.{routine_small, site_near, has_places, routines_near, services_few}
use Rattle.image_link.specs.declared.handlers.HandlerBlocks.{HandlerBlocks}
use Rattle.image_link.specs.Handlers.{adding_of, removing_of}
use Rattle.image_link.specs.Near.{AreBlocksNear}
use Rattle.image_link.proofs.Front as front
use Rattle.image_link.proofs.Blocks.{adding_near, removing_near}
use Rattle.x64_emit.proofs.Stubs.{stub_near}
use Rattle.image_tables.proofs.RowBounds.{below_at, label_below}
use Rattle.image_tables.proofs.CodeInMemory.{IsThere, cold_small}
use Rattle.image_tables.proofs.Templates.{AreLinksNear}

thunk_near : (p : LinearProgram) (text : ℕ) (b : HandlerBlocks) (f : BuiltIn) → text ≤ MOST_IMAGE
    → AreBlocksNear b → IsNear (thunk_of (thunks_at (services_of p) text b) f)
thunk_near p text b Put lt near =
    front.thunk_near (services_of p) text imports.Put (services_few p) lt
thunk_near p text b Protect lt near =
    front.thunk_near (services_of p) text imports.Protect (services_few p) lt
thunk_near p text b RaiseException lt near =
    front.thunk_near (services_of p) text imports.RaiseException (services_few p) lt
thunk_near p text b Walk lt near =
    front.thunk_near (services_of p) text imports.Walk (services_few p) lt
thunk_near p text b (AddVectored f) lt near = stub_near (adding_of b) f (adding_near b near)
thunk_near p text b (RemoveVectored f) lt near = stub_near (removing_of b) f (removing_near b near)

label_near : (p : LinearProgram) (x : Placed) (l : ℕ)
    → IsThere (site_of p) (linked p).text (text_begin p.globals) x → IsNear ((links p x).label l)
label_near p x l h =
    let r = x.routine in
    let room = h.room in
    let cold = h.cold_room in
    let small = routine_small r h.near in
    let colds = cold_small r h.near in
    label_below [] r.layout (x.begin + entry_size r) x.cold r.body (x.begin + routine_size r)
    near_end h.near.cold (omega arith) (omega arith) (omega arith) tt (omega arith) l

pub links_near : (p : LinearProgram) (x : Placed) → FitsProgram p
    → IsThere (site_of p) (linked p).text (text_begin p.globals) x → AreLinksNear (links p x)
links_near p x fits h =
    let s = site_of p in
    let n = site_near (services_of p) p.globals (routines p) (length p.functions) p.main
    (services_few p) fits.globals
    (routines_near p fits) (has_places p fits) in
    let text = n.text in
    let services = services_few p in
    record {
      label = λ l. label_near p x l h;
      function = λ f. below_at near_end s.functions f 0 n.functions (omega arith);
      known = λ f. thunk_near p s.text s.blocks f text n.blocks;
      funclet = λ f. below_at near_end s.funclets f 0 n.funclets (omega arith);
      local_unwind = front.thunk_near (services_of p) s.text imports.LocalUnwind (services_few p)
          text;
    }
