-- A body returns: RAX has the number of its slot, and RIP and RSP are those of its return address.
use Rattle.std.proofs.Common.{◌≡◌, ℕ, ◌+◌, ◌^◌, ◌<◌, ◌≤◌, Bool, true, false, Option, Some, None, ◌∷◌, length, refl, sym, ap, subst, ◌∙◌, arith, length-append}
use Rattle.std.specs.Prelude.{slice_get}
use Rattle.match_turns.specs.Words.{kept_of, context_of, Rax, Rsp, State, register, Slot, Local, Temporary, IsSlot, Configuration, read, Layout, return_code, fetch, local_at, fetch_local, MachineView, machine, HasBack, Returned, HaveRoom, IsWellFormed, AllKeep, counts_of, owed_of, Setting, RepresentsAt, Place, InRegister, InFrame, fetch_placed, IsReached, Arriving, host_list}
use Rattle.template_code.specs.Places.{place_of}
use Rattle.match_bodies.specs.Callers.{frame_info, owed_by}
use Rattle.match_bodies.specs.CodeSites.{body_plan}
use Rattle.virtual_unwind.specs.Undone.{operations}
use Rattle.frame_rules.specs.Bytes.{spell}
use Rattle.frame_rules.specs.Frame.{HoldsFrame}
use Rattle.frame_rules.specs.Plan.{FramePlan, IsPlan, epilogue, operations_of}
use Rattle.frame_rules.specs.States.{registers}
use Rattle.frame_rules.proofs.Planning.{codes_plan}
use Rattle.template_code.specs.Frames.{frame_plan, plan_of_layout}
use Rattle.x64_templates.specs.Runs.{Reaches}
use Rattle.lowering_invariants.specs.Registers.{SlotHas}
use Rattle.linear_code.specs.declared.instruction.Instruction.TheVariants as instructions
use Rattle.match_turns.proofs.Lemmas.{body_owed, owed_return, number_small, fetch_fine, return_run, reaches_steps, may_read_written, word_is, reaches_keeps, stays_well_formed, IsCounted, sp_low, frame_top, room_here, holds_here, slots_here, v, frame, slots, same_state, template_here, has_slots, sp_is}
use Rattle.match_bodies.proofs.Prologues.FrameCode.{epilogue_count}
use Rattle.match_bodies.proofs.Prologues.PrologueSteps.{of_codes, fits, holds, old as before}
use Rattle.match_bodies.proofs.Places.StackTop.{leaf_layout}
use Rattle.match_bodies.proofs.Places.ReachedSlots.{slots_reached}
use Rattle.match_bodies.proofs.Walks.RoutineWalks.{Beneath}
use Rattle.match_bodies.proofs.Steps.BodyFrames.{ending_few, frame_plan_is}
use Rattle.match_bodies.proofs.Keeping.ReturnKeeping.{LeavesBody, fetch_plain, returns_leave}
use Rattle.match_turns.proofs.Calls.ReturnAddressPlace.{top_of, begins_beneath}
use Rattle.match_bodies.proofs.Templates.TemplateRuns.{are_here}

-- ---- how long a return takes

fetched_by : (o : Option ℕ) (d : ℕ) → length (fetch_local o Rax d) ≤ 2
fetched_by None d = omega arith
fetched_by (Some b) d = omega arith

placed_soon : (y : Layout) (i : ℕ) (p : Place) → length (fetch_placed y Rax i p) ≤ 2
placed_soon y i (InRegister r) = omega arith
placed_soon y i InFrame = fetched_by y.base (local_at y i)
placed_soon y i Arriving = omega arith

fetched_soon : (y : Layout) (x : Slot) → length (fetch y Rax x) ≤ 2
fetched_soon y (Temporary i) = omega arith
fetched_soon y (Local i) = placed_soon y i (place_of y i)

-- a return takes so many turns at most where its epilogue has so many instructions
pub returns_within : (y : Layout) (x : Slot) (n : ℕ) → length (epilogue (plan_of_layout y 0)) ≤ n
    → (1 ≤ length (return_code y x)) × (length (return_code y x) ≤ n + 2)
returns_within y x n le =
    let a = length-append (fetch y Rax x) (epilogue (plan_of_layout y 0)) in
    let b = fetched_soon y x in
    let c = (epilogue_count (plan_of_layout y 0)).0 in
    (omega arith, omega arith)

-- the plan of a leaf function keeps the rules
none_plan : IsPlan (frame_plan 0 0)
none_plan = record { size = omega arith; distance = omega arith; probe = refl; allowed = refl }

module _ (setting : Setting) (roomy : HaveRoom setting.program) where
  open setting use {functions as t, funclets as fs, program, plan as p, sites as q, image}

  module _ (s : State) (c : Configuration) (b : RepresentsAt setting s c)
      (counted : IsCounted setting c) (from : Slot)
      (at : slice_get b.body.slots.code.code c.frame.next ≡ Some (instructions.Return from)) where
    abbrev pub layout : Layout
    layout = p.layout c.frame.body

    abbrev pub sp : ℕ
    sp = register s.cpu Rsp

    abbrev pub back : ℕ
    back = b.body.back

    abbrev pub n : ℕ
    n = length (return_code layout from)

    is_there : IsSlot (counts_of b.body.slots.code) from
    is_there = has_slots setting roomy s c b counted (instructions.Return from) at

    pub has_back : HasBack s.memory (sp + layout.frame) back
    has_back =
        let low = sp_low setting s c b counted in
        let top = frame_top setting s c b counted in
        let r = word_is s.memory (sp + layout.frame) back
        (owed_return s.memory (context_of s.cpu) (owed_of p c.frame.body) layout.frame back
        b.body.others (body_owed setting s c b.body
        (let z : sp + layout.frame + 8 < 2 ^ 64 = omega arith in z))) in
        let small = number_small s.memory 8 (sp + layout.frame) b.memory.data_alone.bytes in
        record {
          number = r;
          readable = λ a l u. may_read_written s.memory a
              (b.memory.stack a (omega arith) (omega arith));
          small = omega (arith, r, small);
        }

    abbrev view : MachineView
    view = v setting roomy s c b counted

    -- the number that is returned
    abbrev pub result : ℕ
    result = (slots setting roomy s c b counted).slots from

    reached : SlotHas (IsReached p c.frame.body) from
    reached = slots_reached setting c.frame.body b.body.slots.code b.body.slots.body c.frame.next
        (instructions.Return from) at

    pub result_is : (x : ℕ) → read c from ≡ Some x → result ≡ x
    result_is x reads = by from is_there reached reads
      where
        the_same : (a b : ℕ) → Some a ≡ Some b → a ≡ b
        the_same a b e = cc

        by : (slot : Slot) → IsSlot (counts_of b.body.slots.code) slot
            → SlotHas (IsReached p c.frame.body) slot → read c slot ≡ Some x
            → (slots setting roomy s c b counted).slots slot ≡ x
        by (Local i) lt named e =
            (slots_here setting s c b counted).locals i lt named ∙ the_same _ x e
        by (Temporary i) lt named e = (slots_here setting s c b counted).temporaries i x e

    -- ---- its frame, as its plan says

    abbrev plan : FramePlan
    plan = plan_of_layout layout 0

    abbrev f : ℕ
    f = plan.frame

    abbrev offset : ℕ
    offset = plan.distance

    abbrev top : ℕ
    top = top_of setting s c b counted

    top_low : top < 2 ^ 47
    top_low = let t' = frame_top setting s c b counted in omega arith

    abbrev old : ℕ → ℕ
    old = before t fs f offset top (top + 8) back b.body.others b.body.is

    owed_planned : owed_of p c.frame.body ≡ of_codes f offset (operations_of plan)
    owed_planned = by (p.leaf c.frame.body) refl
      where
        by : (leaf : Bool) → p.leaf c.frame.body ≡ leaf
            → owed_of p c.frame.body ≡ of_codes f offset (operations_of plan)
        by true e =
            let none = (leaf_layout t fs program p q c.frame.body b.body.slots.code e
            (image.laid_out c.frame.body b.body.slots.code b.body.slots.body)).plan in
            ap (owed_by (frame_info p c.frame.body)) e
            ∙ ap (λ (k : FramePlan). of_codes k.frame k.distance (operations_of k)) (sym none)
        by false e =
            let h = image.plans c.frame.body b.body.slots.code b.body.slots.body e in
            let codes = ap operations h.codes ∙ codes_plan spell (body_plan p q c.frame.body) in
            ap (owed_by (frame_info p c.frame.body)) e ∙ (λ j. record {
              register = h.frame_register j;
              offset = h.frame_offset j;
              codes = codes j;
            })

    is_plan : IsPlan plan
    is_plan = by (p.leaf c.frame.body) refl
      where
        by : (leaf : Bool) → p.leaf c.frame.body ≡ leaf → IsPlan plan
        by true e =
            let none = (leaf_layout t fs program p q c.frame.body b.body.slots.code e
            (image.laid_out c.frame.body b.body.slots.code b.body.slots.body)).plan in
            subst IsPlan (sym none) none_plan
        by false e =
            (frame_plan_is setting c.frame.body b.body.slots.code b.body.slots.body e).is_plan

    frame_holds : HoldsFrame f offset s.memory old back (registers s) (operations_of plan)
        (operations_of plan)
    frame_holds = holds t fs f offset top (top + 8) back b.body.others b.body.is is_plan.distance
        b.body.small (let l = top_low in omega arith) s (operations_of plan)
        (subst (λ o. Beneath t s o top (top + 8) back b.body.others b.body.is) owed_planned
        (begins_beneath setting s c b counted))

    -- ---- the state after it

    pub run : Returned n (machine view s.cpu.rip s.cpu.flags) old back result
    run = return_run (frame setting roomy s c b counted) from view old back s.cpu.rip s.cpu.flags
        (slots setting roomy s c b counted) (room_here setting s c b counted) is_there
        (are_here setting roomy s c b counted) (sp_is setting roomy s c b counted)
        (holds_here setting s c b counted) is_plan top_low
        (fits t fs f offset top (top + 8) back b.body.others b.body.is is_plan.distance b.body.small
        (let l = top_low in omega arith))
        (subst (λ (x : State). HoldsFrame f offset x.memory old back (registers x)
        (operations_of plan)
        (operations_of plan)) (same_state setting roomy s c b counted) frame_holds)
        (template_here setting roomy s c b counted (instructions.Return from) at)

    abbrev pub after : State
    after = record s {
      cpu = record {
        registers = run.after.cpu.registers;
        rip = back;
        flags = run.after.cpu.flags;
      };
    }

    -- the host's list of handlers is as it was
    same_handlers : run.after.vectored ≡ s.vectored
    same_handlers =
        (reaches_keeps n (machine view s.cpu.rip s.cpu.flags) run.after run.comes).handlers

    after_is : run.after ≡ after
    after_is = λ j. record {
      cpu = record {
        registers = run.after.cpu.registers;
        rip = run.rip j;
        flags = run.after.cpu.flags;
      };
      memory = run.memory j;
      vectored = same_handlers j;
    }

    pub reaches : Reaches n s after
    reaches = subst (λ x. Reaches n s x) after_is
        (subst (λ x. Reaches n x run.after) (sym (same_state setting roomy s c b counted))
        run.comes)

    pub sp_after : register after.cpu Rsp ≡ sp + layout.frame + 8
    sp_after = run.stack

    -- the number is in RAX
    pub rax_after : register after.cpu Rax ≡ result
    rax_after = run.rax

    pub well_formed_after : IsWellFormed (host_list p c.store) after
    well_formed_after = stays_well_formed s after (reaches_keeps n s after reaches) has_back.small
        b.well_formed

    pub returns_soon : (1 ≤ n) × (n ≤ 12)
    returns_soon = returns_within layout from 10
        (ending_few setting c.frame.body b.body.slots.code b.body.slots.body)

    -- each of its turns keeps the shadow, and the caller has its registers again
    pub leaves : LeavesBody t fs b.body.others after n s
    leaves =
        let top = frame_top setting s c b counted in
        let low = sp_low setting s c b counted in
        let f = frame setting roomy s c b counted in
        returns_leave setting c.frame.body b.body.slots.code b.body.slots.body c.frame.next from at
        s
        after (top_of setting s c b counted) b.body.back b.body.others b.body.is b.rip
        (begins_beneath setting s c b counted) refl b.memory.code
        (fetch_plain layout.slots layout.frame 8 layout from
        (fetch_fine f.layout f.counts f.sp f.base true from
        (room_here setting s c b counted) is_there)) (reaches_steps n s after reaches) b.body.small
        (omega arith)

    pub keeps : AllKeep t fs n s
    keeps = leaves.keeps

    pub registers_after : kept_of after.cpu.registers ≡ (sp + layout.frame + 8) ∷ b.body.others
    registers_after = λ i. sp_after i ∷ leaves.others_are i
