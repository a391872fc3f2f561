-- In a linked program's code, and at the host's services, a walk finds callers.
use Rattle.std.proofs.Common.{◌≡◌, ℕ, ◌+◌, ◌-◌, ◌*◌, ◌^◌, ◌<◌, ◌≤◌, true, false, List, [], ◌∷◌, ◌++◌, length, Option, Some, None, refl, sym, ap, subst, ◌∙◌, arith}
use Rattle.std.specs.Prelude.{slice_get}
use Rattle.image_states.specs.Words.{Memory, Rax, Instr, modrm, Table, Entry, BuiltIn, Put, Protect, RaiseException, Walk, Functions, distance, entry_of, Slot, LinearBody, LinearProgram, BodyName, body_of, FrameLayout, size, sizes, fetch, check_stack, routines, cold_total, argument_code, Placed, part_with, end_of, site_of, image_base, begin_of, making_size, FindsReturn, FindsOwed, owed_of, owed_by, functions_of, funclets_of, is_leaf, or_none, owed_after, routine_of, address_of, plan_of, sites_of, HasWholeImage, IsNear, holding, FindsCallers, FindsCallersOutside, services_of, routines_begin, cold_begin, probe_begin}
use Rattle.image_tables.specs.RoutinePlaces.{parts_of}
use Rattle.eh_tables.specs.Tables as reading
use Rattle.linear_code.specs.declared.instruction.Instruction.TheVariants as instructions
use Rattle.image_states.proofs.ColdLabels.{first_hot}
use Rattle.image_states.proofs.Lemmas.{beyond_is_held_by_none, thunks_are_held_by_none, tables_are_read, end_inside, away}
use Rattle.host_layout.specs.declared.imported.ImportedService.TheVariants as imports
use Rattle.x64_emit.specs.declared.links.Thunks.{Thunks}
use Rattle.std.specs.Prelude.{nat_lt, if◌then◌else◌}
use Rattle.std.proofs.lemmas.Bool.{ltb-true}
use Rattle.std.specs.Prelude.{Bool}
use Rattle.c_operations.specs.declared.built_in.BuiltIn.TheVariants.{AddVectored, RemoveVectored}
use Rattle.host_layout.specs.declared.imported.ImportedService.{ImportedService}
use Rattle.x64_instr.specs.declared.register.Reg.{Reg}
use Rattle.x64_instr.specs.declared.register.Reg.TheVariants.{Rcx, Rdx}
use Rattle.template_code.specs.Handlers.{address_in}
use Rattle.x64_emit.specs.declared.links.Stubs.{Stubs}
use Rattle.x64_emit.specs.Linking.{stub_of, AreStubsNear}
use Rattle.x64_emit.proofs.Stubs.{stub_below}
use Rattle.image_link.specs.Handlers.{adding_of, removing_of}
use Rattle.image_link.specs.Near.{IsSiteNear}
use Rattle.image_link.specs.Text.{thunk_at}
use Rattle.image_link.proofs.Blocks.{adding_near, removing_near, step_below}
use Rattle.image_link.proofs.Front.{place_small, services_few}
use Rattle.image_link.proofs.Images.{site_near, has_places}
use Rattle.image_link.proofs.Nearness.{routines_near}
use Rattle.image_tables.specs.RoutinePlaces.{block_begin}
use Rattle.match_bodies.specs.ProgramImages.{stub_code}
use Rattle.image_states.specs.Plans.{thunks_of}
use Rattle.image_states.proofs.StubsPlaced.{adding_count, adds_is, handler_is, rcx_size, rdx_size}
use Rattle.image_tables.specs.Entries as tables
use Rattle.image_tables.proofs.Labels.{within_get}
use Rattle.image_states.proofs.Addresses.{place, own_cold, body_first, hot_below, label_rises}
use Rattle.image_states.proofs.Entering.{arguments_same}
use Rattle.match_bodies.specs.ProgramImages.{loaded_at}
use Rattle.image_states.proofs.EntryWalks.{IsOwnAddress, none_found}
use Rattle.eh_tables.specs.Infos.{Info}
use Rattle.match_bodies.specs.Callers.{frame_info}
use Rattle.image_states.proofs.Framed.{framed_of, leaf_of, one_teller}
use Rattle.image_states.proofs.Callers.{leaf_at, making_at, entered_at, argument_at, argument_found, making_is, owed_if, return_found, leaf_end, load_at, opening_at, pops_at}

-- ---- where no entry is

module _ (program : LinearProgram) (c : HasWholeImage program) (m : Memory) where
  abbrev table : Functions
  table = functions_of program

  unheld : (a rva : ℕ) → distance image_base a ≡ rva → holding rva (tables.entries program) ≡ None
      → entry_of table a ≡ None
  unheld a rva at none =
      ap (λ (es : Table (List Entry)). holding (distance image_base a) (reading.or_none es))
      (tables_are_read program c.fits c.ranges)
      ∙ ap (λ (n : ℕ). holding n (tables.entries program)) at
      ∙ none

  outside_at : (a rva : ℕ) → IsOwnAddress a → distance image_base a ≡ rva
      → holding rva (tables.entries program) ≡ None → FindsReturn table m a
  outside_at a rva own at none = none_found table m a own (unheld a rva at none)

  first_small : IsNear (cold_begin program + cold_total (routines program))
  first_small = let end = end_inside program c.fits in let few = c.small in omega arith

  -- before the first routine
  pub front_at : (rva : ℕ) → rva < routines_begin program → FindsReturn table m (image_base + rva)
  front_at rva lt =
      let s = first_small in
      outside_at (image_base + rva) rva (record {
        live = omega arith;
        not_filter = λ z. absurd (omega arith);
        not_finally = λ z. absurd (omega arith);
        not_vectored = λ z. absurd (omega arith);
      }) (away rva (omega arith)) (thunks_are_held_by_none program rva c.fits lt)

  -- behind the last cold part
  pub behind_at : (rva : ℕ) → cold_begin program + cold_total (routines program) ≤ rva
      → rva < 2 ^ 31 → FindsReturn table m (image_base + rva)
  behind_at rva le lt =
      outside_at (image_base + rva) rva (record {
        live = omega arith;
        not_filter = λ z. absurd (omega arith);
        not_finally = λ z. absurd (omega arith);
        not_vectored = λ z. absurd (omega arith);
      }) (away rva (omega arith)) (beyond_is_held_by_none program rva c.fits le)

  -- in the host's page
  pub host_at : (a : ℕ) → IsOwnAddress a → a < 0x100000000 → FindsReturn table m a
  host_at a own low =
      let s = first_small in
      let rva = a + (2 ^ 64 - image_base) in
      let far : distance image_base a ≡ rva = omega arith in
      outside_at a rva own far
      (beyond_is_held_by_none program rva c.fits (omega arith))

-- ---- all of it

module _ (program : LinearProgram) (c : HasWholeImage program) where
  -- in the thunk of a service
  service_found : (m : Memory) (v : ImportedService)
      → FindsReturn (functions_of program) m
      (image_base + thunk_at (services_of program) (site_of program).text v)
  service_found m v =
      let place = place_small (services_of program) v in
      front_at program c m (thunk_at (services_of program) (site_of program).text v) (omega arith)

  -- in a stub, or where there is none
  stub_found : (m : Memory) (s : Stubs) (f d : ℕ) → AreStubsNear s → d < 13
      → cold_begin program + cold_total (routines program) ≤ s.first
      → FindsReturn (functions_of program) m (image_base + (stub_of s f + d))
  stub_found m s f d near lt le =
      by (nat_lt f s.count) (λ e. stub_below s.step s.count f (ltb-true f s.count e))
    where
      by : (there : Bool) → (there ≡ true → s.step * f ≤ s.step * s.count)
          → FindsReturn (functions_of program) m
          (image_base + ((if there then s.first + s.step * f else 0) + d))
      by true below =
          let most = below refl in
          behind_at program c m (s.first + s.step * f + d) (omega arith) (omega arith)
      by false below =
          let e : image_base + d ≡ image_base + (0 + d) = omega arith in
          subst (λ a. FindsReturn (functions_of program) m a) e
          (front_at program c m d (omega arith))

  near : IsSiteNear (site_of program)
  near = site_near (services_of program) program.globals (routines program)
      (length program.functions) program.main (services_few program) c.fits.globals
      (routines_near program c.fits) (has_places program c.fits)

  -- an address d bytes into what is called
  plain_found : (m : Memory) (v : ImportedService) (d : ℕ) → d < 6
      → FindsReturn (functions_of program) m
      (image_base + thunk_at (services_of program) (site_of program).text v + d)
  plain_found m v d lt =
      let place = place_small (services_of program) v in
      let at = thunk_at (services_of program) (site_of program).text v in
      let e : image_base + (at + d) ≡ image_base + at + d = omega arith in
      subst (λ a. FindsReturn (functions_of program) m a) e
      (front_at program c m (at + d) (omega arith))

  moved_stub : (m : Memory) (t : Stubs) (f d : ℕ) → AreStubsNear t → d < 13
      → cold_begin program + cold_total (routines program) ≤ t.first
      → FindsReturn (functions_of program) m (image_base + stub_of t f + d)
  moved_stub m t f d near lt le =
      let e : image_base + (stub_of t f + d) ≡ image_base + stub_of t f + d = omega arith in
      subst (λ a. FindsReturn (functions_of program) m a) e (stub_found m t f d near lt le)

  stub_size : (r : Reg) (at f : ℕ) → ((next to : ℕ) → size (address_in r next to) ≡ 7)
      → sizes (address_in r (at + 7) f ∷ []) ≡ 7
  stub_size r at f seven = let s = seven (at + 7) f in omega arith

  thunk_found : (m : Memory) (f : BuiltIn) (d : ℕ)
      → d < sizes (stub_code (plan_of program) f ((sites_of program).thunk f)) + 6
      → FindsReturn (functions_of program) m ((sites_of program).thunk f + d)
  thunk_found m Put d lt = plain_found m imports.Put d (omega arith)
  thunk_found m Protect d lt = plain_found m imports.Protect d (omega arith)
  thunk_found m RaiseException d lt = plain_found m imports.RaiseException d (omega arith)
  thunk_found m Walk d lt = plain_found m imports.Walk d (omega arith)
  thunk_found m (AddVectored f) d lt =
      let b = (site_of program).blocks in
      let size = stub_size Rdx ((sites_of program).thunk (AddVectored f))
      ((plan_of program).handler f) rdx_size in
      moved_stub m (adding_of b) f d (adding_near b near.blocks) (omega arith) (omega arith)
  thunk_found m (RemoveVectored f) d lt =
      let b = (site_of program).blocks in
      let size = stub_size Rcx ((sites_of program).thunk (RemoveVectored f))
      ((plan_of program).handler f) rcx_size in
      moved_stub m (removing_of b) f d (removing_near b near.blocks) (omega arith) (omega arith)

  -- in a name thunk
  name_found : (m : Memory) (f d : ℕ) → (site_of program).blocks.count ≡ length program.functions
      → f < length program.functions → d < 15
      → FindsReturn (functions_of program) m ((plan_of program).handler f + d)
  name_found m f d count lt small =
      let b = (site_of program).blocks in
      let last = near.blocks in
      let below = step_below b f (omega arith) in
      let at = block_begin program f in
      let own = handler_is program c f (omega arith) in
      let e : image_base + (at + d) ≡ (plan_of program).handler f + d = omega arith in
      subst (λ a. FindsReturn (functions_of program) m a) e
      (behind_at program c m (at + d) (omega arith) (omega arith))

  stack_check : sizes check_stack ≡ 41
  unfolding size modrm
  stack_check = refl

  pub callers_outside : FindsCallersOutside (functions_of program) (funclets_of program) program
      (plan_of program) (sites_of program)
  callers_outside = record {
    thunks = λ m f d called lt. thunk_found m f d lt;
    names = λ m f d adds below lt.
        (let count = adding_count program c (adds_is program c adds.function adds.adds) in
        name_found m f d count below lt);
    local_unwind = λ m. service_found m imports.LocalUnwind;
    check_stack = λ m d lt.
        (let at = probe_begin program in
        let n = stack_check in
        let e : image_base + (at + d) ≡ image_base + at + d = omega arith in
        subst (λ a. FindsReturn (functions_of program) m a) e
        (front_at program c m (at + d) (omega arith)));
    services = λ m a live low not_filter not_finally not_vectored. host_at program c m a (record {
      live = live;
      not_filter = not_filter;
      not_finally = not_finally;
      not_vectored = not_vectored;
    }) low;
  }

  module _ (name : BodyName) (b : LinearBody) (is : body_of program name ≡ Some b) where
    abbrev x : Placed
    x = routine_of program name

    abbrev begin : ℕ
    begin = begin_of (plan_of program) (sites_of program) name

    begin_is : begin ≡ image_base + x.begin
    begin_is = (place program c name b is).begin

    -- it begins with code that isn't cold
    body_some : 0 < length b.code → x.begin < end_of x
    body_some lt =
        let same = ap (λ (d : LinearBody). length d.code) (place program c name b is).body in
        let i = within_get x.routine.body.code 0 (omega arith) in
        let below = hot_below program c name b is 0 i.0 i.1
        (first_hot x.routine.body (own_cold program c name b is)) in
        let first = body_first program c name b is in
        let some = label_rises program c name b is 0 i.0 in
        omega arith

    entry_found : (m : Memory) (o : Option FrameLayout) → x.routine.frame ≡ o
        → (is_leaf o ≡ true → 0 < length b.code) → FindsReturn (functions_of program) m begin
    entry_found m None none some =
        let z : image_base + (x.begin + 0) ≡ begin = omega (arith, begin_is) in
        let lt = body_some (some refl) in
        subst (λ a. FindsReturn (functions_of program) m a) z
        (leaf_at program c name b is m none (x.begin + 0) (omega arith) (omega arith))
    entry_found m (Some f) framed some =
        subst (λ a. FindsReturn (functions_of program) m a) (sym begin_is)
        (entered_at program c name b is m f framed)

    -- what tells of its frame
    abbrev own_info : Option FrameLayout → Info
    own_info o = (tables.entry_of (site_of program) x (or_none o)).info

    told_so : frame_info (plan_of program) name ≡ own_info x.routine.frame
    told_so =
        one_teller program c x (or_none x.routine.frame) (part_with 0 (parts_of x)) None

    owed_same : owed_by (own_info x.routine.frame) (is_leaf x.routine.frame)
        ≡ owed_of (plan_of program) name
    owed_same = ap (λ (w : Info). owed_by w (is_leaf x.routine.frame)) (sym told_so)

    making_found : (m : Memory) (d : ℕ) (o : Option FrameLayout) → x.routine.frame ≡ o
        → is_leaf o ≡ false
        → d < (own_info o).prologue_size
        → FindsOwed (functions_of program) m (begin + d) (owed_after (own_info o) d)
    making_found m d None none framed lt = absurd (let z : true ≡ false = framed in cc)
    making_found m d (Some f) framed leaf lt =
        let z : image_base + x.begin + d ≡ begin + d = omega (arith, begin_is) in
        subst (λ a. FindsOwed (functions_of program) m a
        (owed_after (tables.entry_of (site_of program) x f).info d)) z
        (making_at program c name b is m f framed d lt)

    at_label : (label : ℕ) (from : Slot) → slice_get b.code label ≡ Some (instructions.Return from)
        → slice_get x.routine.body.code label ≡ Some (instructions.Return from)
    at_label label from at = ap (λ (d : LinearBody). slice_get d.code label)
        (place program c name b is).body ∙ at

    place_of : (m : Memory) (done left : List Instr) (item : Instr)
        (split : argument_code x.routine.layout x.routine.entry ≡ done ++ (item ∷ left))
        → argument_at program c name b is m done left item split
        ≡ begin + making_size (plan_of program) (sites_of program) name + sizes done
    place_of m done left item split = let n = making_is program c name b is m in
        omega (arith, begin_is)

    pub callers : FindsCallers (functions_of program) (funclets_of program) program
        (plan_of program) (sites_of program) name b
    callers = record {
      entries = λ m some. entry_found m x.routine.frame refl some;
      making = λ m d leaf lt.
          (let told = told_so in
          let few : d < (own_info x.routine.frame).prologue_size =
          subst (λ (i : Info). d < i.prologue_size) told lt in
          subst (λ (i : Info). FindsOwed (functions_of program) m (begin + d) (owed_after i d))
          (sym told) (making_found m d x.routine.frame refl leaf few));
      arguments = λ m done left item has parts.
          (let split = sym (arguments_same program c name b is) ∙ parts in
          let e : argument_at program c name b is m done left item split
          ≡ begin + making_size (plan_of program) (sites_of program) name
          + sizes done = place_of m done left item split in
          subst (FindsOwed (functions_of program) m (begin
          + making_size (plan_of program) (sites_of program) name + sizes done)) owed_same
          (subst (λ a. FindsOwed (functions_of program) m a
          (owed_by (own_info x.routine.frame) (is_leaf x.routine.frame))) e
          (argument_found program c name b is m done left item split has x.routine.frame refl)));
      returns = λ m label from done left item has at parts.
          subst (FindsOwed (functions_of program) m (address_of program name label + sizes done))
          owed_same
          (return_found program c name b is m label from (at_label label from at) done left item
          parts has x.routine.frame refl);
      leaf_ends = λ m label from has at leaf.
          (let fetching = sizes (fetch x.routine.layout Rax from) in
          let e : address_of program name label + fetching
          ≡ address_of program name label + fetching + 0 = omega arith in
          subst (FindsReturn (functions_of program) m) e
          (leaf_end program c name b is m label from (at_label label from at)
          (leaf_of x.routine.frame leaf)));
      loads = λ m label from loaded left next has at framed saves.
          (let f = framed_of x.routine.frame framed in
          let to = loaded_at (functions_of program) (funclets_of program) program (plan_of program)
          (sites_of program) name label from loaded in
          subst (FindsOwed (functions_of program) m to) owed_same
          (subst (λ o. FindsOwed (functions_of program) m to (owed_if program c name b is m o))
          (sym f.1)
          (load_at program c name b is m label from (at_label label from at) has f.0 f.1 loaded
          left next saves)));
      opens = λ m label from has at framed.
          (let f = framed_of x.routine.frame framed in
          opening_at program c name b is m label from (at_label label from at) has f.0 f.1);
      ends = λ m label from popped left has at framed pushes.
          (let f = framed_of x.routine.frame framed in
          pops_at program c name b is m label from (at_label label from at) has f.0 f.1 popped
          left pushes);
    }
