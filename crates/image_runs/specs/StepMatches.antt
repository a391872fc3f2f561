-- A step of linear code that turns of the machine match, and one that may ask a vectored handler.
--
-- The main definition: `MatchesOrAsks`.
use Rattle.std.specs.Prelude.{◌≡◌, ◌⊎◌, ℕ, List, length}
use Rattle.x64_machine.specs.Effect.{State}
use Rattle.virtual_unwind.specs.CallerOf.{Functions}
use Rattle.host_model.specs.declared.funclet.Funclet.{Funclet}
use Rattle.linear_code.specs.declared.instruction.Instruction.{Instruction}
use Rattle.linear_code.specs.Program.{LinearProgram}
use Rattle.linear_machine.specs.Frames.{Store, Configuration}
use Rattle.lowering_invariants.specs.Bodies.{IsCallee}
use Rattle.lowering_locals.specs.Marks.{activations_left}
use Rattle.match_stack.specs.ImagePlan.{ImagePlan}
use Rattle.match_runs.specs.Matched.{IsMatched}
use Rattle.match_bodies.specs.CodeSites.{Sites}
use Rattle.match_bodies.specs.Bodies.{turns_left}
use Rattle.match_bodies.specs.StepLaws.{turns_per_step}
use Rattle.match_turns.specs.DispatchOutcome.{Represents}
use Rattle.match_turns.specs.AskOutcome.{AskBegins}

abbrev pub StepMatches : Functions → List Funclet → LinearProgram → ImagePlan → Sites → State
    → Configuration → Instruction → Type 0
StepMatches t fs program p q s c i =
    IsMatched t fs program turns_per_step turns_left (Represents t fs program p q) s c i

-- the vectored handler that an instruction asks takes two arguments, and begins above all
-- activations that the instruction leaves
pub record IsAskedAt (program : LinearProgram) (i : Instruction) (c : Configuration) (f : ℕ)
    (store : Store) : Type 0 where
  pub callee : IsCallee program f 2
  pub left : length store.activations ≡ activations_left i c

-- turns of the machine match the step, or it asks a vectored handler. That one takes two arguments,
-- and begins above all activations that the instruction leaves (`IsAskedAt`).
abbrev pub MatchesOrAsks : Functions → List Funclet → LinearProgram → ImagePlan → Sites → State
    → Configuration → Instruction → Type 0
MatchesOrAsks t fs program p q s c i =
    StepMatches t fs program p q s c i
    ⊎ ((v : AskBegins t fs program p q turns_per_step s c i)
    × IsAskedAt program i c v.handler v.store)
