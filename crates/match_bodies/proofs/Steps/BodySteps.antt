-- Each step within a body is matched.
use Rattle.std.proofs.Common.{◌≡◌, ℕ, zero, ◌<◌, ◌^◌, Bool, true, false, Option, Some, None, refl, sym, ap, ◌∙◌, arith}
use Rattle.match_bodies.specs.Words.{State, Operation, Gives, performed, is_reserved, Slot, Local, Instruction, LinearProgram, IsSlot, Configuration, is_constant, operand, act, instruction_at, exec, HasRule, Moves, turns_left, counts_of, IsWellMade, IsKnown, Setting, setting_of, RepresentsAt, LandsWell, IsReached}
use Rattle.linear_code.specs.declared.instruction.Instruction.TheVariants as instructions
use Rattle.lowering_invariants.specs.Ready as ready
use Rattle.lowering_invariants.specs.Registers.{SlotHas}
use Rattle.lowering_invariants.specs.SmallNumbers.{IsSmallCode}
use Rattle.match_bodies.specs.StepLaws.{turns_per_step, Completes, IsWithinBody, StepsWithinBodiesAreMatched, SeparatorsAreMatched}
use Rattle.match_bodies.proofs.Templates.TemplateRuns.{code, slots, has_slots}
use Rattle.match_bodies.proofs.Steps.PlainSteps.{reached_here, is_read, jump_step, separator_step, jump_if_zero_step}
use Rattle.match_bodies.proofs.Steps.ComputeStep.{same_constant, outcome_here, compute_step}
use Rattle.match_bodies.proofs.Steps.LandingStep.{landing_step}
use Rattle.match_bodies.proofs.Steps.StepNeeds.{counted_here, around_here, code_at, held_here, goes_inside, ready_here}

some_number : (x y : ℕ) → Some x ≡ Some y → x ≡ y
some_number x y e = cc

same_instruction : (o : Option Instruction) (i j : Instruction) → o ≡ Some i → o ≡ Some j → i ≡ j
same_instruction None i j e f = cc
same_instruction (Some x) i j e f = cc

-- only a landing follows what has landed
abbrev is_landing : Instruction → Bool
is_landing (instructions.Landing to) = true
is_landing i = false

lands_at : (program : LinearProgram) (c : Configuration) (i : Instruction) (landed : Option ℕ)
    → LandsWell program c.frame.body c.frame.next landed → instruction_at program c ≡ Some i
    → is_landing i ≡ false → landed ≡ None
lands_at program c i None h e f = refl
lands_at program c i (Some v) h e f =
    let same : instructions.Landing (Local h.0)
    ≡ i = same_instruction (instruction_at program c) (instructions.Landing (Local h.0)) i h.1
    e in
    absurd (let x : true ≡ false = ap is_landing same ∙ f in cc)

module _ (setting : Setting) (made : IsWellMade setting.program setting.plan) (s : State)
    (c : Configuration) (b : RepresentsAt setting s c) (known : IsKnown setting.program c) where
  open setting use {functions as t, funclets as fs, program, plan as p}

  free : (i : Instruction) → instruction_at program c ≡ Some i → is_landing i ≡ false
      → c.frame.landed ≡ None
  free i e f = lands_at program c i c.frame.landed known.stacked.landed e f

  -- the operands that linear code reads are those in the slots
  completes : (to : Slot) (o : Operation) (first second : Slot)
      → instruction_at program c ≡ Some (instructions.Compute to o first second)
      → (d : Completes program c o first second)
      → outcome_here setting made.room s c b (counted_here setting made c known)
      (around_here setting made s c b known) o first second ≡ Gives d.value d.memory
  completes to o first second e d =
      let there = has_slots setting made.room s c b
      (counted_here setting made c known) (instructions.Compute to o first second)
      (code_at setting made s c b known (instructions.Compute to o first second) e) in
      let r = ready_here setting made s c b known
      (instructions.Compute to o first second) e in
      let reached = reached_here setting made.room s c b (counted_here setting made c known)
      (around_here setting made s c b known) (instructions.Compute to o first second)
      (code_at setting made s c b known (instructions.Compute to o first second) e) in
      by (is_constant o) refl there.1 there.2 r.0 r.1 reached.1 reached.2 d.reads_first
      d.reads_second
    where
      by : (constant : Bool) → is_constant o ≡ constant
          → IsSlot (counts_of (code setting made.room s c b (counted_here setting made c known)))
          first → IsSlot (counts_of (code setting made.room s c b
          (counted_here setting made c known))) second
          → ready.IsRead constant (ready.held c) first → ready.IsRead constant (ready.held c) second
          → SlotHas (IsReached p c.frame.body) first → SlotHas (IsReached p c.frame.body) second
          → operand constant c first ≡ Some d.a → operand constant c second ≡ Some d.b
          → outcome_here setting made.room s c b (counted_here setting made c known)
          (around_here setting made s c b known) o first second ≡ Gives d.value d.memory
      by true k f g hf hg lf lg rf rg =
          same_constant (is_reserved program.globals) o
          ((slots setting made.room s c b (counted_here setting made c known)).slots first)
          ((slots setting made.room s c b (counted_here setting made c known)).slots second) d.a d.b
          c.store.memory k ∙ d.gives
      by false k f g hf hg lf lg rf rg =
          let x = is_read setting made.room s c b
          (counted_here setting made c known) (around_here setting made s c b known) first f hf lf
          in
          let y = is_read setting made.room s c b
          (counted_here setting made c known) (around_here setting made s c b known) second g hg lg
          in
          let a : x.value ≡ d.a = some_number x.value d.a (sym x.reads ∙ rf) in
          let e : y.value ≡ d.b = some_number y.value d.b (sym y.reads ∙ rg) in
          ap (λ z. performed (is_reserved program.globals) o z
          ((slots setting made.room s c b (counted_here setting made c known)).slots second)
          c.store.memory) (x.same ∙ a)
          ∙ ap (λ z. performed (is_reserved program.globals) o d.a z c.store.memory) (y.same ∙ e)
          ∙ d.gives

  small_code : (o : Option ℕ) (value : ℕ) → o ≡ Some value → IsSmallCode o → value < 2 ^ 64
  small_code None value e h = cc
  small_code (Some x) value e h = let n = some_number x value e in omega arith

  separator : instruction_at program c ≡ Some instructions.Separator
      → Moves t fs program 1 turns_left (RepresentsAt setting) s c instructions.Separator
  separator e =
      separator_step setting made.room s c b (counted_here setting made c known)
      (around_here setting made s c b known) (free instructions.Separator e refl)
      (code_at setting made s c b known instructions.Separator e) (held_here setting made s c b
      known) (goes_inside setting made s c b known instructions.Separator e)

  step : (i : Instruction) → instruction_at program c ≡ Some i → IsWithinBody program c i
      → HasRule (act program i (exec program zero) c)
      → Moves t fs program turns_per_step turns_left (RepresentsAt setting) s c i
  step (instructions.Compute to o first second) e h rule =
      let r = ready_here setting made s c b known
      (instructions.Compute to o first second) e in
      compute_step setting made.room s c b (counted_here setting made c known)
      (around_here setting made s c b known) to o first second h.value h.memory
      (free (instructions.Compute to o first second) e refl)
      (code_at setting made s c b known (instructions.Compute to o first second) e)
      (held_here setting made s c b known) r.0 r.1 rule
      (goes_inside setting made s c b known (instructions.Compute to o first second) e) (completes
      to o first second e h)
  step (instructions.Jump label) e h rule =
      jump_step setting made.room s c b (counted_here setting made c known)
      (around_here setting made s c b known) label (free (instructions.Jump label) e refl)
      (code_at setting made s c b known (instructions.Jump label) e)
      (held_here setting made s c b known)
      (goes_inside setting made s c b known (instructions.Jump label) e)
  step (instructions.JumpIfZero slot label) e h rule =
      jump_if_zero_step setting made.room s c b (counted_here setting made c known)
      (around_here setting made s c b known) slot label
      (free (instructions.JumpIfZero slot label) e refl)
      (code_at setting made s c b known (instructions.JumpIfZero slot label) e)
      (held_here setting made s c b known)
      (ready_here setting made s c b known (instructions.JumpIfZero slot label) e)
      (goes_inside setting made s c b known (instructions.JumpIfZero slot label) e)
  step (instructions.Landing to) e h rule =
      let r = ready_here setting made s c b known (instructions.Landing to) e in
      landing_step setting made.room s c b (counted_here setting made c known)
      (around_here setting made s c b known) to r.0.0 r.0.1
      (small_code c.frame.landed r.0.0 r.0.1 known.small.items.0.landed)
      (code_at setting made s c b known (instructions.Landing to) e)
      (held_here setting made s c b known) r.1
      (goes_inside setting made s c b known (instructions.Landing to) e)
  step instructions.Separator e h rule =
      let m = separator e in
      let few = m.few in
      record {
        turns = m.turns;
        some = m.some;
        configuration = m.configuration;
        few = omega arith;
        state = m.state;
        events = m.events;
        comes = m.comes;
        acts = m.acts;
        shown = m.shown;
        is_there = m.is_there;
      }
  step i e h rule = absurd h

pub within_body : StepsWithinBodiesAreMatched
within_body t fs program p q image made s c i b known e h rule = step (setting_of t fs program p q
    image) made s
    c b known i e h rule

pub separators_are_matched : SeparatorsAreMatched
separators_are_matched t fs program p q image made s c b known e = separator (setting_of t fs
    program p q image) made s c b known e
