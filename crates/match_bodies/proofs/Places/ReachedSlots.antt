-- The locals that a body's code names are those that it reaches.
use Rattle.std.proofs.Common.{◌≡◌, ℕ, Some, ap, subst, sym, ◌∙◌}
use Rattle.std.specs.Prelude.{slice_get}
use Rattle.std.specs.List.{AllByRecursion}
use Rattle.linear_code.specs.declared.instruction.Instruction.TheVariants as instructions
use Rattle.linear_machine.specs.Frames.{funclet_body}
use Rattle.lowering_invariants.specs.Registers.{SlotHas, SlotsHave}
use Rattle.lowering_invariants.proofs.Stacks.StackTargets.{all_at}
use Rattle.match_bodies.specs.Words.{Slot, Local, Temporary, Instruction, LinearBody, BodyName, FunctionBody, FuncletBody, body_of, IsReached, IsFuncletPlan, Setting}

slot_has : (L : ℕ → Type 0) → ((x : ℕ) → L x) → (slot : Slot) → SlotHas L slot
slot_has L all (Local x) = all x
slot_has L all (Temporary i) = tt

slots_have : (L : ℕ → Type 0) → ((x : ℕ) → L x) → (i : Instruction) → SlotsHave L i
slots_have L all (instructions.Compute to o first second) =
    (slot_has L all to, slot_has L all first, slot_has L all second)
slots_have L all (instructions.Information to field) = slot_has L all to
slots_have L all (instructions.JumpIfZero slot label) = slot_has L all slot
slots_have L all (instructions.Landing to) = slot_has L all to
slots_have L all (instructions.Return from) = slot_has L all from
slots_have L all i = tt

body_same : (a b : LinearBody) → Some a ≡ Some b → a ≡ b
body_same a b e = cc

module _ (setting : Setting) where
  open setting use {program, plan as p, image}

  -- those of each instruction of it
  pub slots_reached : (name : BodyName) (b : LinearBody) → body_of program name ≡ Some b
      → (label : ℕ) (i : Instruction) → slice_get b.code label ≡ Some i
      → SlotsHave (IsReached p name) i
  slots_reached (FunctionBody f) b there label i e =
      slots_have (IsReached p (FunctionBody f)) (λ x. tt) i
  slots_reached (FuncletBody k) b there label i e =
      let plan : IsFuncletPlan program p k b = image.laid_out (FuncletBody k) b there in
      let same : plan.funclet.body ≡ b = body_same plan.funclet.body b
      (ap funclet_body (sym plan.there) ∙ there) in
      all_at (SlotsHave (IsReached p (FuncletBody k))) b.code label i
      (subst (λ (x : LinearBody). AllByRecursion (SlotsHave (IsReached p (FuncletBody k))) x.code)
      same (image.spares k plan.funclet plan.there).code) e
