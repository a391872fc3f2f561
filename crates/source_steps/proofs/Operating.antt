-- An operation that was made, and what follows it.
use Rattle.std.proofs.Common.{◌≡◌, ℕ, refl, sym, ap, false}
use Rattle.flat_memory.specs.Memory.{Memory}
use Rattle.c_operations.specs.declared.operation.Operation.{Operation}
use Rattle.source_meaning.specs.State.{set_memory}
use Rattle.source_operations.specs.declared.performing.Performed.{Performed}
use Rattle.source_operations.specs.declared.performing.Performed.TheVariants as performed
use Rattle.source_operations.specs.Outcomes.{outcome_of, is_given}
use Rattle.source_machine.specs.Frames.{Place}
use Rattle.source_machine.specs.Machine.{Machine, at_state, operated}
use Rattle.source_steps.specs.Finished.{operation_finished}

pub operated_is : (m : Machine) (memory : Memory) (o : Operation) (a b : ℕ) (p : Place)
    (x : Performed) → (is_given x ≡ false → memory ≡ m.state.memory)
    → operated m o a b p (outcome_of x memory)
    ≡ operation_finished (at_state m (set_memory m.state memory)) o a b p x
operated_is m memory o a b p (performed.Gives v) kept = refl
operated_is m memory o a b p (performed.Raises code access) kept =
    ap (λ k. operation_finished (at_state m (set_memory m.state k)) o a b p
    (performed.Raises code access)) (sym (kept refl))
operated_is m memory o a b p (performed.Undefined at) kept =
    ap (λ k. operation_finished (at_state m (set_memory m.state k)) o a b p
    (performed.Undefined at)) (sym (kept refl))
