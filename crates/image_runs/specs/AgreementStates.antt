-- What a state of the machine shows of linear code.
--
-- The main definition: `RepresentsWhereSet`.
use Rattle.std.specs.Prelude.{List}
use Rattle.x64_machine.specs.Effect.{State}
use Rattle.virtual_unwind.specs.CallerOf.{Functions}
use Rattle.host_model.specs.declared.funclet.Funclet.{Funclet}
use Rattle.linear_code.specs.Program.{LinearProgram}
use Rattle.linear_machine.specs.Frames.{Configuration}
use Rattle.match_stack.specs.ImagePlan.{ImagePlan}
use Rattle.lowering_locals.specs.Agreement.{AgreeOnSet}
use Rattle.match_bodies.specs.CodeSites.{Sites}
use Rattle.match_turns.specs.DispatchOutcome.{Represents}

module _ (t : Functions) (fs : List Funclet) (program : LinearProgram) (p : ImagePlan)
    (q : Sites) where
  -- the machine represents the configuration that linear code is in, but for unset locals
  pub record RepresentsWhereSet (s : State) (c : Configuration) : Type 0 where
    pub actual : Configuration
    pub agreement : AgreeOnSet program c actual
    pub is_there : Represents t fs program p q s actual
