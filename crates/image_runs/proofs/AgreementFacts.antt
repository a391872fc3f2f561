-- What is known of the actual configuration.
use Rattle.std.proofs.Common.{◌≡◌, ℕ, List, Some, subst}
use Rattle.image_runs.specs.Words.{Program, IsSound, Instruction, LinearProgram, Configuration, instruction_at, lowered, IsReady, CanContinue, Marks, AreAlike, ReadsNoUnset, AgreeOnSet, IsKnown, KnownNext, AgreeingAreKnown}
use Rattle.linear_code.specs.declared.instruction.Instruction.TheVariants as instructions
use Rattle.lowering_invariants.specs.Turns.{IsReached}
use Rattle.lowering_invariants.specs.Waiting.{IsStacked}
use Rattle.lowering_invariants.specs.Depths.{HasDepths}
use Rattle.image_runs.proofs.Lemmas.{continues, agreeing_are_small, agreement_continues}
use Rattle.lowering_invariants.proofs.Reached.{is_stacked, has_depths}
use Rattle.lowering_invariants.proofs.Reached as reached
use Rattle.lowering_locals.proofs.Alike.{is_over, marked_is_reached}
use Rattle.lowering_locals.proofs.TurnPairs.{over}
use Rattle.lowering_locals.proofs.AlikeFacts.{has_activations}

module _ (program : LinearProgram) where
  -- what speaks of frames, and of what waits, alone
  ready_alike : (c : Configuration) (ys : List (List ℕ)) (i : Instruction) → IsReady program c i
      → IsReady program (over c ys) i
  ready_alike c ys (instructions.Compute to o first second) h = h
  ready_alike c ys i h = h

  continues_alike : (marks : Marks) (c d : Configuration) → AreAlike marks c d
      → CanContinue program c → CanContinue program d
  continues_alike marks c d a h = subst (CanContinue program) (is_over marks c d a)
      (record {
        instruction = h.instruction;
        at = h.at;
        ready = ready_alike c d.store.activations h.instruction h.ready;
      })

  stacked_alike : (marks : Marks) (c d : Configuration) → AreAlike marks c d → IsStacked program c
      → IsStacked program d
  stacked_alike marks c d a h = subst (IsStacked program) (is_over marks c d a)
      (record { above = h.above; below = h.below; landed = h.landed; handlers = h.handlers })

  depths_alike : (marks : Marks) (c d : Configuration) → AreAlike marks c d → HasDepths program c
      → HasDepths program d
  depths_alike marks c d a h = subst (HasDepths program) (is_over marks c d a)
      (record { held = h.held; below = h.below })

module _ (program : Program) (sound : IsSound program) (reads : ReadsNoUnset (lowered program))
  where
    is_reached : (c d : Configuration) → AgreeOnSet (lowered program) c d
        → IsReached (lowered program) c
    is_reached c d t = marked_is_reached (lowered program) c t.marks t.marked

    can_continue : (c d : Configuration) → AgreeOnSet (lowered program) c d
        → CanContinue (lowered program) d
    can_continue c d t = continues_alike (lowered program) t.marks c d t.alike
        (continues program sound c (is_reached c d t))

    pub known : (c d : Configuration) → AgreeOnSet (lowered program) c d → IsKnown (lowered program)
        d
    known c d t = record {
      continues = can_continue c d t;
      stacked = stacked_alike (lowered program) t.marks c d t.alike
          (is_stacked program sound c (is_reached c d t));
      activations = has_activations (lowered program) t.marks c d t.alike
          (reached.has_activations program sound c (is_reached c d t));
      small = agreeing_are_small (lowered program) c d t;
      depths = depths_alike (lowered program) t.marks c d t.alike
          (has_depths program sound c (is_reached c d t));
      next = λ i e at acts. (let g = (agreement_continues (lowered program) reads c d t i at).back e
          acts in can_continue g.on e g.agreement);
    }

    pub known_next : (c d : Configuration) → AgreeOnSet (lowered program) c d → (i : Instruction)
        → instruction_at (lowered program) d ≡ Some i → KnownNext (lowered program) d i
    known_next c d t i at = λ e acts. (let g = (agreement_continues (lowered program) reads c d t i
        at).back e acts in known g.on e g.agreement)

pub agreeing_are_known : AgreeingAreKnown
agreeing_are_known program sound reads c d t = record {
  known = known program sound reads c d t;
  next = known_next program sound reads c d t;
}
