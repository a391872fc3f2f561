-- Where a walk finds the callers of a routine of a linked program.
use Rattle.std.proofs.Common.{◌≡◌, ℕ, zero, suc, ◌+◌, ◌-◌, ◌^◌, ◌<◌, ◌≤◌, Bool, false, List, [], ◌∷◌, ◌++◌, Option, Some, None, refl, sym, ap, subst, ◌∙◌, arith, append_assoc}
use Rattle.std.specs.Prelude.{if◌then◌else◌, slice_get}
use Rattle.std.specs.List.{AllByRecursion}
use Rattle.image_states.specs.Words.{Memory, Rax, Instr, chosen, Entry, Functions, distance, entry_of, IsExecutableAt, Slot, Instruction, LinearBody, LinearProgram, BodyName, body_of, FrameLayout, Layout, spelled, size, sizes, is_cold, side_from, hot_code, fetch, code_from, IsInstructionNear, IsFrameNear, argument_code, entry_size, routine_code, Placed, body_begin, end_of, site_of, image_base, template_at, links, begin_of, making_size, code_of, HasProgram, FindsReturn, FindsOwed, Owed, owed_after, owed_by, is_leaf, or_none, functions_of, funclets_of, routine_of, plan_of, sites_of, HasWholeImage, return_code, placed, probe_begin}
use Rattle.template_code.specs.Frames.{frame_plan, plan_of_layout, probe_end}
use Rattle.template_code.specs.Jumps as jumps
use Rattle.eh_tables.specs.declared.code.UnwindOperation.{UnwindOperation}
use Rattle.frame_rules.specs.Plan.{FramePlan, Saved, epilogue, loads_then}
use Rattle.frame_layout.specs.Plans as layouts
use Rattle.frame_layout.proofs.Planned.{probe_end_few}
use Rattle.image_states.proofs.Lemmas.{never_empty, sizes_append, template_sizes, entry_sizes, routine_small, some_same, none_some, entry_least, executable_split, code_split, IsTemplate, template_there, operations_by, Inner, AllInner, inner_at, inner_role, fetch_inner, away, found_in, none_in, described, prologue_some, prologue_sizes, laid_plan, laid_epilogue, leaf_laid}
use Rattle.linear_code.specs.declared.instruction.Instruction.TheVariants as instructions
use Rattle.image_link.specs.Text as texts
use Rattle.image_tables.specs.Entries as tables
use Rattle.image_tables.specs.FrameLaws.{IsFramed}
use Rattle.image_tables.specs.Functions.{plan}
use Rattle.image_tables.proofs.Arguments.{arguments_inner}
use Rattle.image_tables.proofs.FrameRules.{is_plan}
use Rattle.match_bodies.specs.Callers.{owed_opening, owed_pops}
use Rattle.match_bodies.specs.CodeSites.{body_plan, epilogue_through}
use Rattle.image_tables.proofs.Labels.{taken}
use Rattle.image_states.proofs.ColdLabels.{return_hot}
use Rattle.image_states.proofs.Addresses.{place, here, own_cold, hot_place}
use Rattle.image_states.proofs.Entering.{frame_same, code_same}
use Rattle.image_states.proofs.Framed.{executable_of}
use Rattle.image_states.proofs.EntryWalks.{IsOwnAddress, none_found}
use Rattle.image_states.proofs.PlanWalks.{IsPlannedAt, making_found, entered_found, instruction_found, load_found, opening_leaves, pops_leave}

-- ---- sizes

item_some : (ops : List UnwindOperation) (i : Instr) → Inner ops i → 0 < size i
unfolding size
item_some ops i inner = never_empty i inner.0

-- what a leaf function ends in
return_some : 0 < sizes (epilogue (frame_plan 0 0))
unfolding size
return_some = omega arith

near_at : (P : Instruction → Type 0) (is : List Instruction) (number : ℕ) (i : Instruction)
    → AllByRecursion P is → slice_get is number ≡ Some i → P i
near_at P [] number i all e = absurd (none_some e)
near_at P (j ∷ is) zero i all e = subst P (some_same e) all.0
near_at P (j ∷ is) (suc number) i all e = near_at P is number i all.1 e

-- ---- the routine of a body

module _ (program : LinearProgram) (c : HasWholeImage program) (name : BodyName) (b : LinearBody)
    (is : body_of program name ≡ Some b) (m : Memory) where
  abbrev x : Placed
  x = routine_of program name

  abbrev y : Layout
  y = x.routine.layout

  abbrev t : Functions
  t = functions_of program

  abbrev begin : ℕ
  begin = image_base + x.begin

  abbrev end : ℕ
  end = image_base + end_of x

  abbrev index : ℕ
  index = (place program c name b is).index

  at_index : slice_get (placed program) index ≡ Some x
  at_index = (place program c name b is).at

  small : end_of x < 2 ^ 31
  small = let h = here program c name b is in let room = h.room in
      let few = routine_small x.routine h.near in omega arith

  own_address : (rva : ℕ) → rva < 2 ^ 31 → IsOwnAddress (image_base + rva)
  own_address rva lt = record {
    live = omega arith;
    not_filter = λ z. absurd (omega arith);
    not_finally = λ z. absurd (omega arith);
    not_vectored = λ z. absurd (omega arith);
  }

  -- ---- without a frame

  pub leaf_at : x.routine.frame ≡ None → (rva : ℕ) → x.begin ≤ rva → rva < end_of x
      → FindsReturn t m (image_base + rva)
  leaf_at none rva low high =
      let s = small in
      none_found t m (image_base + rva) (own_address rva (omega arith))
      (none_in program index x rva c.fits c.ranges at_index none low high (omega arith))

  -- ---- with one

  module _ (f : FrameLayout) (framed : x.routine.frame ≡ Some f) where
    abbrev e : Entry
    e = tables.entry_of (site_of program) x f

    abbrev framing : FramePlan
    framing = plan program x f

    near : IsFrameNear (Some f)
    near = subst IsFrameNear framed (here program c name b is).near.frame

    least : e.info.prologue_size ≤ entry_size x.routine
    least = entry_least x.routine f (here program c name b is).near framed

    is_framed : IsFramed program index x f
    is_framed = record { fits = c.fits; there = at_index; framed = framed }

    entry_found : (d : ℕ) → begin + d < end → entry_of t (begin + d) ≡ Some e
    entry_found d lt =
        let s = small in
        let z : begin + d ≡ image_base + (x.begin + d) = omega arith in
        ap (entry_of t) z
        ∙ found_in program index x f (x.begin + d) c.fits c.ranges at_index framed (omega arith)
        (omega arith) (omega arith)

    entry_away : (d : ℕ) → begin + d < end → distance t.base (begin + d) - x.begin ≡ d
    entry_away d lt =
        let s = small in
        let z : begin + d ≡ image_base + (x.begin + d) = omega arith in
        let w : x.begin + d - x.begin ≡ d = omega arith in
        ap (λ a. distance image_base a - x.begin) z
        ∙ ap (λ n. n - x.begin) (away (x.begin + d) (omega arith)) ∙ w

    -- its entry tells of the prologue of its plan
    pub planned_at : IsPlannedAt t begin end framing e.info
    planned_at =
        let s = small in
        let l = least in
        let d = described f framing.probe in
        record {
          is_plan = is_plan program index x f is_framed;
          codes = d.codes;
          frame_register = d.frame_register;
          frame_offset = d.frame_offset;
          some = prologue_some f near;
          inside = omega arith;
          high = omega arith;
          entry = e;
          info = refl;
          parents = refl;
          found = entry_found;
          away = entry_away;
          own = λ d lt. (let z : image_base + (x.begin + d) ≡ begin + d = omega arith in
              subst IsOwnAddress z (own_address (x.begin + d) (omega arith)));
        }

    -- it is the plan of the body's layout
    pub plan_same : body_plan (plan_of program) (sites_of program) name ≡ framing
    plan_same =
        let s = small in
        let at = (place program c name b is).begin in
        let own = begin_of (plan_of program) (sites_of program) name in
        let check = (sites_of program).check_stack in
        let end = probe_end (layouts.plan_of f 0) in
        let few = probe_end_few f near.0.pushes in
        let probe : jumps.distance (own + end) check ≡ framing.probe = omega arith in
        ap (λ q. plan_of_layout y (jumps.distance (own + probe_end q) check))
        (laid_plan program index x f 0 at_index framed)
        ∙ laid_plan program index x f (jumps.distance (own + end) check) at_index framed
        ∙ ap (layouts.plan_of f) probe

    -- while the frame is made
    pub making_at : (d : ℕ) → d < e.info.prologue_size
        → FindsOwed t m (begin + d) (owed_after e.info d)
    making_at d lt = making_found t m begin end framing e.info planned_at d lt

    -- at its first byte
    pub entered_at : FindsReturn t m begin
    entered_at = entered_found t m begin end framing e.info planned_at

    -- at an instruction of the body
    inner_at' : (d : ℕ) (i : Instr) → e.info.prologue_size ≤ d → begin + d < end
        → Inner (operations_by x) i
        → IsExecutableAt m (begin + d) (chosen i) → FindsOwed t m (begin + d) (owed_by e.info false)
    inner_at' d i past lt inner is_there =
        instruction_found t m begin end framing e.info planned_at d i past lt inner.0
        (inner_role (operations_by x) e.info.frame_register i inner) is_there

  -- what is to be undone in it, by its frame
  abbrev pub owed_if : Option FrameLayout → Owed
  owed_if o = owed_by (tables.entry_of (site_of program) x (or_none o)).info (is_leaf o)

  -- ---- its code

  code_there : HasProgram t (funclets_of program) program (plan_of program) (sites_of program) m
      → IsExecutableAt m (image_base + x.begin)
      (spelled (routine_code (site_of program) x.begin x.cold x.routine))
  code_there has =
      let begin = begin_of (plan_of program) (sites_of program) name in
      let code = executable_of m begin (spelled
      (code_of program (plan_of program) (sites_of program) name b))
      (has.code name b is).is_there in
      subst (λ (n : ℕ). IsExecutableAt m n (spelled
      (routine_code (site_of program) x.begin x.cold x.routine))) (place program c name b is).begin
      (subst (λ (q : List Instr). IsExecutableAt m begin (spelled q))
      (code_same program c name b is) code)

  abbrev check : ℕ
  check = probe_begin program

  abbrev making : List Instr
  making = texts.frame_code x.begin check x.routine.frame

  abbrev arguments : List Instr
  arguments = argument_code y x.routine.entry

  abbrev body : List Instr
  body = code_from (links program x) y (body_begin x) (hot_code x.routine.body)

  pub making_is : making_size (plan_of program) (sites_of program) name ≡ sizes making
  making_is =
      let h = here program c name b is in
      let room = h.room in
      ap sizes (frame_same x.routine.frame y x.begin check
      (begin_of (plan_of program) (sites_of program) name) (sites_of program).check_stack
      h.near.frame (λ f framed probe. laid_plan program index x f probe at_index framed)
      (place program c name b is).begin refl (omega arith))

  entry_is : sizes making + sizes arguments ≡ entry_size x.routine
  entry_is = omega (
    arith,
    sizes_append making arguments,
    entry_sizes x.begin check x.routine (here program c name b is).near,
  )

  arguments_there : HasProgram t (funclets_of program) program (plan_of program) (sites_of program)
      m → IsExecutableAt m (image_base + x.begin + sizes making) (spelled arguments)
  arguments_there has =
      let base = begin in
      (code_split m base making arguments (code_split m base (making ++ arguments) body
      (code_there has)).0).1

  body_there : HasProgram t (funclets_of program) program (plan_of program) (sites_of program) m
      → IsExecutableAt m (image_base + body_begin x) (spelled body)
  body_there has =
      let base = begin in
      let e = entry_is in
      let at : base + sizes (making ++ arguments)
      ≡ image_base + body_begin x = omega (arith, sizes_append making arguments) in
      subst (λ n. IsExecutableAt m n (spelled body)) at
      (code_split m base (making ++ arguments) body (code_there has)).1

  -- ---- arguments

  module _ (done left : List Instr) (item : Instr) (parts : arguments ≡ done ++ (item ∷ left)) where
    item_inner : Inner (operations_by x) item
    item_inner = inner_at (operations_by x) done left item (subst (AllInner (operations_by x)) parts
        (arguments_inner (operations_by x) y x.routine.entry (here program c name b is).saves
        (here program c name b is).near.entry))

    abbrev pub argument_at : ℕ
    argument_at = begin + (sizes making + sizes done)

    argument_high : argument_at < end
    argument_high = let e = entry_is in let some = item_some (operations_by x) item item_inner in
        omega (arith, ap sizes parts, sizes_append done (item ∷ left))

    argument_is_at : HasProgram t (funclets_of program) program (plan_of program) (sites_of program)
        m → IsExecutableAt m argument_at (chosen item)
    argument_is_at has =
        let at = begin + sizes making in
        let rest = (code_split m at done (item ∷ left)
        (subst (λ (q : List Instr). IsExecutableAt m at (spelled q)) parts
        (arguments_there has))).1 in
        let e : at + sizes done ≡ argument_at = omega arith in
        subst (λ n. IsExecutableAt m n (chosen item)) e
        (executable_split m (at + sizes done) (chosen item) (spelled left) rest).0

    pub argument_found : HasProgram t (funclets_of program) program (plan_of program)
        (sites_of program) m → (o : Option FrameLayout) → x.routine.frame ≡ o
        → FindsOwed t m argument_at (owed_if o)
    argument_found has None none =
        let high = argument_high in
        let rva = x.begin + (sizes making + sizes done) in
        let z : image_base + rva ≡ argument_at = omega arith in
        subst (FindsReturn t m) z (leaf_at none rva (omega arith) (omega arith))
    argument_found has (Some f) framed =
        let size : sizes making ≡ (e f framed).info.prologue_size =
        ap (λ o. sizes (texts.frame_code x.begin check o)) framed
        ∙ prologue_sizes f _ in
        inner_at' f framed (sizes making + sizes done) item (omega arith) argument_high item_inner
        (argument_is_at has)

  -- ---- returns

  module _ (label : ℕ) (from : Slot) (at : slice_get x.routine.body.code label
      ≡ Some (instructions.Return from)) where
    abbrev i : Instruction
    i = instructions.Return from

    -- it is in no cold part
    hot : is_cold x.routine.body.cold label ≡ false
    hot = return_hot x.routine.body label from (own_cold program c name b is) at

    th : IsTemplate (links program x) y (body_begin x) (hot_code x.routine.body)
        (template_at x label) i
    th =
        let rs = x.routine.body.cold in
        let code = x.routine.body.code in
        subst (λ (s : Bool). IsTemplate (links program x) y (if s then x.cold else body_begin x)
        (side_from rs s 0 code) (template_at x label) i) hot
        (template_there (links program x) y (body_begin x) x.cold rs code label i at)

    abbrev fetching : List Instr
    fetching = fetch y Rax from

    abbrev ending : List Instr
    ending = epilogue (plan_of_layout y 0)

    -- where it begins
    abbrev returning : ℕ
    returning = image_base + template_at x label

    -- so far from the routine's first byte
    abbrev far : ℕ
    far = entry_size x.routine
        + taken y x.routine.body.cold false 0 label x.routine.body.code

    far_is : x.begin + far ≡ template_at x label
    far_is = let p = hot_place program c name b is label hot in omega arith

    near_return : IsInstructionNear y i
    near_return = near_at (IsInstructionNear y) x.routine.body.code label i
        (here program c name b is).near.code at

    fits : sizes fetching + sizes ending + template_at x label ≤ end_of x
    fits = let h = th.inside in let s = template_sizes (links program x) y (template_at x label)
        i in omega (arith, sizes_append fetching ending)

    return_there : HasProgram t (funclets_of program) program (plan_of program) (sites_of program) m
        → IsExecutableAt m returning (spelled (fetching ++ (ending ++ th.after)))
    return_there has =
        let body_at = image_base + body_begin x in
        let rest = (code_split m body_at th.before (return_code y from ++ th.after)
        (subst (λ (q : List Instr). IsExecutableAt m body_at (spelled q)) th.parts
        (body_there has))).1 in
        let h = th.here in
        let e : body_at + sizes th.before ≡ returning = omega arith in
        subst (λ (q : List Instr). IsExecutableAt m returning (spelled q))
        (append_assoc fetching ending th.after)
        (subst (λ n. IsExecutableAt m n (spelled (return_code y from ++ th.after))) e rest)

    -- where the epilogue begins
    epilogue_there : HasProgram t (funclets_of program) program (plan_of program) (sites_of program)
        m → IsExecutableAt m (returning + sizes fetching) (spelled ending)
    epilogue_there has =
        (code_split m (returning + sizes fetching) ending th.after
        (code_split m returning fetching (ending ++ th.after) (return_there has)).1).0

    -- ---- the result is fetched

    module _ (done left : List Instr) (item : Instr) (parts : fetching ≡ done ++ (item ∷ left))
      where
        fetch_is_inner : Inner (operations_by x) item
        fetch_is_inner = inner_at (operations_by x) done left item
            (subst (AllInner (operations_by x)) parts
            (fetch_inner (operations_by x) y from near_return.0))

        fetch_high : template_at x label + sizes done < end_of x
        fetch_high =
            let f = fits in
            let some = item_some (operations_by x) item fetch_is_inner in
            omega (arith, ap sizes parts, sizes_append done (item ∷ left))

        fetch_is_at : HasProgram t (funclets_of program) program (plan_of program)
            (sites_of program) m → IsExecutableAt m (returning + sizes done) (chosen item)
        fetch_is_at has =
            let last = ending ++ th.after in
            let split : fetching ++ last ≡ done ++ ((item ∷ left) ++ last) =
            ap (λ (q : List Instr). q ++ last) parts ∙ append_assoc done (item ∷ left) last in
            (executable_split m (returning + sizes done) (chosen item) (spelled (left ++ last))
            (code_split m returning done ((item ∷ left) ++ last)
            (subst (λ (q : List Instr). IsExecutableAt m returning (spelled q)) split
            (return_there has))).1).0

        pub return_found : HasProgram t (funclets_of program) program (plan_of program)
            (sites_of program) m → (o : Option FrameLayout) → x.routine.frame ≡ o
            → FindsOwed t m (returning + sizes done) (owed_if o)
        return_found has None none =
            let high = fetch_high in
            let w = far_is in
            let rva = template_at x label + sizes done in
            let z : image_base + rva ≡ returning + sizes done = omega arith in
            subst (FindsReturn t m) z (leaf_at none rva (omega arith) high)
        return_found has (Some f) framed =
            let high = fetch_high in
            let l = least f framed in
            let w = far_is in
            let z : begin + (far + sizes done) ≡ returning + sizes done = omega arith in
            subst (λ a. FindsOwed t m a (owed_if (Some f))) z
            (inner_at' f framed (far + sizes done) item (omega arith) (omega arith) fetch_is_inner
            (subst (λ a. IsExecutableAt m a (chosen item)) (sym z) (fetch_is_at has)))

    -- ---- the end of a leaf function

    pub leaf_end : x.routine.frame ≡ None → FindsReturn t m (returning + sizes fetching)
    leaf_end none =
        let f = fits in
        let w = far_is in
        let rva = template_at x label + sizes fetching in
        let same = ap (λ (p : FramePlan). sizes (epilogue p)) (leaf_laid program index x at_index
        none) in
        let some = return_some in
        let z : image_base + rva ≡ returning + sizes fetching = omega arith in
        subst (FindsReturn t m) z (leaf_at none rva (omega arith) (omega arith))

    -- ---- an epilogue

    module _ (has : HasProgram t (funclets_of program) program (plan_of program) (sites_of program)
        m) (f : FrameLayout) (framed : x.routine.frame ≡ Some f) where
      abbrev last_from : ℕ
      last_from = far + sizes fetching

      last_is : begin + last_from ≡ returning + sizes fetching
      last_is = let w = far_is in omega arith

      same_end : ending ≡ epilogue (framing f framed)
      same_end = laid_epilogue program index x f (framing f framed).probe at_index framed

      past : (e f framed).info.prologue_size ≤ last_from
      past = let l = least f framed in omega arith

      within : begin + last_from + sizes (epilogue (framing f framed)) ≤ end
      within = let n = fits in let w = far_is in omega (arith, ap sizes same_end)

      is_there : IsExecutableAt m (begin + last_from) (spelled (epilogue (framing f framed)))
      is_there =
          subst (λ a. IsExecutableAt m a (spelled (epilogue (framing f framed)))) (sym last_is)
          (subst (λ (q : List Instr). IsExecutableAt m (returning + sizes fetching) (spelled q))
          same_end (epilogue_there has))

      -- before each load
      pub load_at : (loaded left : List Saved) (next : Saved)
          → (body_plan (plan_of program) (sites_of program) name).saves ≡ loaded ++ (next ∷ left)
          → FindsOwed t m (returning + sizes fetching + sizes (loads_then loaded []))
          (owed_if (Some f))
      load_at loaded left next saves =
          subst (λ a. FindsOwed t m (a + sizes (loads_then loaded [])) (owed_if (Some f))) last_is
          (load_found t m begin end (framing f framed) (e f framed).info (planned_at f framed)
          last_from past within is_there loaded left next
          (ap (λ (p : FramePlan). p.saves) (sym (plan_same f framed)) ∙ saves))

      -- past the loads
      pub opening_at :
          (let p = body_plan (plan_of program) (sites_of program) name in
          FindsOwed t m (returning + sizes fetching + sizes (loads_then p.saves []))
          (owed_opening p))
      opening_at =
          subst (λ (p : FramePlan). FindsOwed t m (returning + sizes fetching
          + sizes (loads_then p.saves [])) (owed_opening p)) (sym (plan_same f framed))
          (subst (λ a. FindsOwed t m (a + sizes (loads_then (framing f framed).saves []))
          (owed_opening (framing f framed))) last_is
          (opening_leaves t m begin end (framing f framed) (e f framed).info (planned_at f framed)
          last_from past within is_there))

      -- and past the allocation
      pub pops_at : (popped left : List ℕ)
          → (body_plan (plan_of program) (sites_of program) name).pushes ≡ popped ++ left
          → (let p = body_plan (plan_of program) (sites_of program) name in
          FindsOwed t m (returning + sizes fetching + sizes (epilogue_through p popped))
          (owed_pops p left))
      pops_at popped left pushes =
          subst (λ (p : FramePlan). FindsOwed t m (returning + sizes fetching
          + sizes (epilogue_through p popped)) (owed_pops p left)) (sym (plan_same f framed))
          (subst (λ a. FindsOwed t m (a + sizes (epilogue_through (framing f framed) popped))
          (owed_pops (framing f framed) left)) last_is
          (pops_leave t m begin end (framing f framed) (e f framed).info (planned_at f framed)
          last_from past within is_there popped left
          (ap (λ (p : FramePlan). p.pushes) (sym (plan_same f framed)) ∙ pushes)))
