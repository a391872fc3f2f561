-- A caller passes its arguments and calls: at the callee's first byte they are in their registers
-- and above its return address.
use Rattle.std.proofs.Common.{◌≡◌, ℕ, ◌+◌, ◌-◌, ◌*◌, ◌<◌, ◌≤◌, true, false, Option, Some, None, List, length, refl, sym, ap, subst, ◌∙◌, arith, inl, inr}
use Rattle.std.specs.Prelude.{◌⊎◌}
use Rattle.std.proofs.lemmas.Bool.{cases_lt}
use Rattle.match_turns.specs.Words.{STACK_START, STACK_END, number_at, may_write, Protection, is_writable, Rsp, Instr, Flags, State, register, Slot, Local, Temporary, IsSlot, BodyState, Layout, sizes, spelled, keep, IsNear, return_at, begin_call, call_code, passing_code, MachineView, machine, sp_of, with_four, pushed, HasBelow, InRegisters, slot_at, IsBytes, Agrees, HasCode, FramePlace, counts_of, FRAME_BY_WEIGHT, MOST_WEIGHT, weight, Setting, CallBegun}
use Rattle.x64_templates.specs.Runs.{Reaches}
use Rattle.linear_code.specs.declared.instruction.Instruction.TheVariants as instructions
use Rattle.match_turns.proofs.Lemmas.{bytes_kept, reaches_then, same_number, Reached, code_split, runs_view, call_begins, beside, pushed_agrees, pushed_bytes, KeepsSlot, stack_is_hidden, AsFunction, AsFunclet, kind, sp_low, frame_top, room_here, holds_here, v, base, frame, slots, same_state, template_here, has_slots, sp_is, locals_count}
use Rattle.x64_templates.proofs.Passing.{passed_in_registers}
use Rattle.match_bodies.proofs.Steps.BodyViews.{placed}
use Rattle.match_turns.proofs.Calls.CallStackArguments.{HasOutgoing, AllPassed, passes, passing_fine}
use Rattle.match_turns.proofs.Calls.AtCall.{AtCall}
use Rattle.match_bodies.proofs.Places.StackTop.{none_arrive}

same_slot : (x z : ℕ) → Some x ≡ Some z → x ≡ z
same_slot x z e = cc

module _ {setting : Setting} (at_call : AtCall setting) where
  open setting use {program, plan as p, sites as q}
  open at_call use {
    roomy,
    state as s,
    configuration as c,
    represents as b,
    counted,
    number as f,
    first,
    count,
    at,
    few_passed,
    framed,
    function as fn,
    shallow,
  }

  abbrev pub layout : Layout
  layout = p.layout c.frame.body

  abbrev pub sp : ℕ
  sp = register s.cpu Rsp

  abbrev pub room : ℕ
  room = 32 + 8 * b.body.slots.code.passed

  abbrev pub here : FramePlace
  here = frame setting roomy s c b counted

  abbrev pub view : MachineView
  view = v setting roomy s c b counted

  abbrev pub numbers : BodyState
  numbers = slots setting roomy s c b counted

  abbrev at_base : ℕ
  at_base = base setting roomy s c b counted

  -- ---- the bottom of the frame

  pub record Bottom : Type 0 where
    pub temporaries : room ≤ layout.temporaries
    pub locals : sp + room ≤ at_base + layout.locals
    pub base : (k : ℕ) → layout.base ≡ Some k → (room ≤ k) × (k + 16 ≤ FRAME_BY_WEIGHT)
    pub slots : layout.temporaries ≤ layout.slots
    pub within : layout.slots ≤ layout.frame
    pub small : layout.frame + 8 ≤ FRAME_BY_WEIGHT * MOST_WEIGHT

  is_base : (o : Option ℕ) → layout.base ≡ o → o ≡ None → at_base ≡ sp
  is_base None e n = subst (λ o. KeepsSlot s.memory layout o sp at_base) e
      (placed setting s c b counted).kept
  is_base (Some k) e n = absurd (let z : ◌≡◌ {A = Option ℕ} (Some k) None = n in no z)
    where
      no : ◌≡◌ {A = Option ℕ} (Some k) None → ⊥
      no e = cc

  function_bottom : AsFunction setting s c b counted → Bottom
  function_bottom g =
      let a = g.layout.passed in
      let l = g.layout.temporaries in
      let m = g.layout.locals in
      let z = g.layout.small in
      let few = g.layout.light in
      let e = is_base None g.layout.none refl in
      record {
        temporaries = a;
        locals = omega arith;
        base = λ k i. absurd (no k (sym g.layout.none ∙ i));
        slots = omega arith;
        within = g.layout.within;
        small = omega arith;
      }
    where
      no : (k : ℕ) → ◌≡◌ {A = Option ℕ} None (Some k) → ⊥
      no k e = cc

  funclet_base : (o : Option ℕ) (slot : ℕ) → layout.base ≡ o → o ≡ Some slot
      → sp + layout.frame + 8 ≤ at_base
  funclet_base None slot e n = absurd (no n)
    where
      no : ◌≡◌ {A = Option ℕ} None (Some slot) → ⊥
      no e = cc
  funclet_base (Some k) slot e n = (subst (λ o. KeepsSlot s.memory layout o sp at_base) e
      (placed setting s c b counted).kept).above_frame

  funclet_bottom : AsFunclet setting s c b counted → Bottom
  funclet_bottom g =
      let a = g.layout.passed in
      let k = g.layout.kept in
      let l = g.layout.temporaries in
      let z = g.layout.small in
      let up = funclet_base (Some g.layout.slot) g.layout.slot g.layout.base refl in
      record {
        temporaries = omega arith;
        locals = omega arith;
        base = λ i e. (let n = same_slot g.layout.slot i (sym g.layout.base ∙ e) in
            (omega arith, omega arith));
        slots = omega arith;
        within = g.layout.within;
        small = omega arith;
      }

  pub bottom : Bottom
  bottom = elim (kind setting s c b counted) [
    | inl g ↦ function_bottom g
    | inr (inl g) ↦ absurd (let z : true ≡ false = sym g.leaf ∙ framed in cc)
    | inr (inr g) ↦ funclet_bottom g
  ]

  -- all of it is in the stack
  pub low : STACK_START + 196568 ≤ sp
  low = sp_low setting s c b counted

  -- and so is the callee's frame, below it
  pub low_callee : STACK_START + 196568 + FRAME_BY_WEIGHT * weight fn ≤ sp
  low_callee =
      let space = b.body.slots.space.space in
      let left = shallow in
      let depth : length c.store.activations ≡ length b.body.acts = ap length b.body.store
      ∙ locals_count b.body.acts in
      omega arith

  pub top : sp + layout.frame + 8 ≤ STACK_END
  top = frame_top setting s c b counted

  pub room_small : room + 8 ≤ FRAME_BY_WEIGHT * MOST_WEIGHT
  room_small =
      let g = bottom.temporaries in
      let h = bottom.slots in
      let w = bottom.within in
      let z = bottom.small in
      omega arith

  pub room_top : sp + room + 8 ≤ STACK_END
  room_top =
      let g = bottom.temporaries in
      let h = bottom.slots in
      let w = bottom.within in
      let z = top in
      omega arith

  outgoing : HasOutgoing here s.memory room
  outgoing = record {
    slots = above;
    base = λ k e. (bottom.base k e).0;
    writable = λ a l u. (let x = low in let z = room_top in
        b.memory.stack a (omega arith) (omega arith));
    own = λ a l u. (let x = low in let z = room_top in
        stack_is_hidden program.globals a (omega arith) (omega arith));
    near = (let z = room_small in omega arith);
  }
    where
      above : (x : Slot) → IsSlot (counts_of b.body.slots.code) x
          → sp + room ≤ slot_at layout sp at_base x
      above (Temporary i) is = let g = bottom.temporaries in omega arith
      above (Local i) is = let g = bottom.locals in omega arith

  -- ---- arguments from the fifth on

  pub has_room : (first + 4 ≤ b.body.slots.code.temporaries) ×
      (first + count ≤ b.body.slots.code.temporaries)
  has_room = let h = has_slots setting roomy s c b counted (instructions.Call f first count) at
      in (h.0, h.1)

  enough : first + 4 + (count - 4) ≤ b.body.slots.code.temporaries
  enough = let a = has_room.0 in let z = has_room.1 in omega arith

  within : 8 * (4 + (count - 4)) ≤ room
  within = omega (arith, few_passed)

  -- the caller has a frame, so no parameter of its own stays in a register
  none_stay : layout.arrivals ≡ 0
  none_stay = none_arrive setting.functions setting.funclets program p setting.sites c.frame.body
      b.body.slots.code framed
      (setting.image.laid_out c.frame.body b.body.slots.code b.body.slots.body)

  pub handed : AllPassed here (room_here setting s c b counted) room first 4 (count - 4) view
      numbers
  handed =
      passes here (room_here setting s c b counted) room none_stay first 4 (count - 4) view numbers
      (λ k e. (let z = (bottom.base k e).1 in let t' = top in omega arith)) enough within outgoing
      (sp_is setting roomy s c b counted) (holds_here setting s c b counted)

  abbrev pub passing : List Instr
  passing = passing_code layout first 4 (count - 4)

  abbrev pub target : ℕ
  target = q.function f

  abbrev pub after_passing : MachineView
  after_passing = record view { rax = handed.rax; memory = handed.memory }

  abbrev there : ℕ
  there = s.cpu.rip + sizes passing

  abbrev pub back : ℕ
  back = return_at layout first there

  -- the callee's view
  abbrev pub called : MachineView
  called = pushed (with_four after_passing (numbers.slots (Temporary first))
      (numbers.slots (Temporary (first + 1))) (numbers.slots (Temporary (first + 2)))
      (numbers.slots (Temporary (first + 3)))) sp back

  pub below_sp : HasBelow handed.memory sp 8
  below_sp = record {
    enough = (let x = low in omega arith);
    high = (let x = top in omega arith);
    writable = λ a l u. ap (λ (g : ℕ → Protection). is_writable (g a).rights) handed.protection
        ∙ (let x = low in let z = top in b.memory.stack a (omega arith) (omega arith));
  }

  codes : HasCode s.memory s.cpu.rip passing × HasCode s.memory there
      (begin_call layout first there target)
  codes =
      let whole = template_here setting roomy s c b counted
      (instructions.Call f first count) at in
      let parts = code_split s.memory s.cpu.rip passing
      (call_code layout (Temporary first) first there target) whole in (
        parts.0,
        (code_split s.memory there (begin_call layout first there target)
            (keep layout (Temporary first)) parts.1).0,
      )

  -- the code of the call is while arguments are passed
  kept_code : HasCode handed.memory there (begin_call layout first there target)
  kept_code = record {
    is_there = bytes_kept s.memory handed.memory there
        (spelled (begin_call layout first there target))
        (λ a fixed. handed.same a (outside a fixed)) handed.protection codes.1.is_there;
    placed = codes.1.placed;
  }
    where
      outside : (a : ℕ) → may_write s.memory a ≡ false
          → (a < sp + 8 * 4) ⊎ (sp + 8 * (4 + (count - 4)) ≤ a)
      outside a fixed = elim (cases_lt a (sp + 8 * 4)) [
        | inl l ↦ inl l
        | inr g ↦ elim (cases_lt a (sp + 8 * (4 + (count - 4)))) [
          | inl l ↦ absurd (let x = low in let z = room_top in let w = within in
              let e : true ≡ false = sym (b.memory.stack a (omega arith) (omega arith)) ∙ fixed in
              cc)
          | inr u ↦ inr u
        ]
      ]

  module _ (near : IsNear back target) where
    first_part : Reached (length passing) view after_passing s.cpu.rip (s.cpu.rip + sizes passing)
        s.cpu.flags
    first_part =
        let z = room_small in
        let w = within in
        runs_view passing view after_passing s.cpu.rip s.cpu.flags
        (passing_fine here (room_here setting s c b counted) room first 4 (count - 4) enough
        (omega arith)) codes.0 handed.does

    call_run : CallBegun here first after_passing there target first_part.left numbers
    call_run =
        call_begins here first after_passing there target first_part.left numbers
        (room_here setting s c b counted) has_room.0 (sp_is setting roomy s c b counted)
        handed.holds below_sp near kept_code

    pub flags_called : Flags
    flags_called = call_run.flags

    -- at the callee's first byte
    abbrev pub at_callee : State
    at_callee = machine called target flags_called

    pub calls : Reaches (length passing + 5) s at_callee
    unfolding flags_called
    calls =
        subst (λ x. Reaches (length passing + 5) x (machine called target call_run.flags))
        (sym (same_state setting roomy s c b counted))
        (reaches_then (length passing) 5 (machine view s.cpu.rip s.cpu.flags)
        (machine after_passing there first_part.left) (machine called target call_run.flags)
        first_part.comes call_run.comes)

  -- ---- what the callee finds

  abbrev pub arguments : ℕ → ℕ
  arguments i = numbers.slots (Temporary (first + i))

  -- RSP there
  pub called_sp : sp_of called ≡ sp - 8
  called_sp = refl

  pub in_registers : InRegisters called arguments
  in_registers =
      let r = passed_in_registers here first after_passing there numbers in
      record { first = r.first; second = r.second; third = r.third; fourth = r.fourth }

  -- memory above RSP, but for the home space and the places of further arguments
  pub same_above : (a : ℕ) → sp ≤ a → (a < sp + 32) ⊎ (sp + room ≤ a)
      → called.memory.byte a ≡ s.memory.byte a
  same_above a l o =
      let x = low in
      let z = top in
      let w = within in
      beside handed.memory sp back a below_sp.enough below_sp.high (inr l)
      ∙ handed.same a (elim o [ inl h ↦ inl (omega arith) | inr h ↦ inr (omega arith) ])

  pub on_stack : (i : ℕ) → 4 ≤ i → i < count
      → number_at called.memory.byte 8 (sp + 8 * i) ≡ arguments i
  on_stack i l u =
      let z = top in
      let w = within in
      let y = room_top in
      same_number called.memory.byte handed.memory.byte 8 (sp + 8 * i) (omega arith)
      (λ a g h. beside handed.memory sp back a below_sp.enough below_sp.high (inr (omega arith)))
      ∙ handed.number i l (omega arith)

  pub called_bytes : IsBytes called.memory
  called_bytes = pushed_bytes (with_four after_passing (numbers.slots (Temporary first))
      (numbers.slots (Temporary (first + 1))) (numbers.slots (Temporary (first + 2)))
      (numbers.slots (Temporary (first + 3)))) sp back (handed.bytes b.memory.data_alone.bytes)

  pub called_agrees : Agrees here.reserved called.memory c.store.memory
  called_agrees =
      let x = low in
      let z = top in
      pushed_agrees here.reserved (with_four after_passing (numbers.slots (Temporary first))
      (numbers.slots (Temporary (first + 1))) (numbers.slots (Temporary (first + 2)))
      (numbers.slots (Temporary (first + 3)))) c.store.memory sp back below_sp
      (λ a l u. stack_is_hidden program.globals a (omega arith) (omega arith)) handed.holds.source

  pub called_protection : called.memory.protection ≡ s.memory.protection
  called_protection = handed.protection
