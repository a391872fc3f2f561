-- The state that a run of a program's image starts with, and the beginning of `main`.
use Rattle.std.specs.Prelude.{◌≡◌, ℕ, ◌+◌, ◌-◌, ◌*◌, ◌≤◌, List, [], length, ℤ, Ok}
use Rattle.host_layout.specs.declared.range.TheConstants.{FIRST_STACK}
use Rattle.x64_machine.specs.Effect.{State}
use Rattle.virtual_unwind.specs.Undone.{word}
use Rattle.virtual_unwind.specs.CallerOf.{Functions}
use Rattle.host_model.specs.declared.funclet.Funclet.{Funclet}
use Rattle.host_model.specs.Loading.{first_cpu}
use Rattle.source_meaning.specs.Source.{first_memory}
use Rattle.linear_code.specs.Program.{LinearProgram, LinearFunction}
use Rattle.match_stack.specs.ImagePlan.{ImagePlan}
use Rattle.match_runs.specs.Comes.{Comes}
use Rattle.image_runs.specs.MatchLaws.{most_before_main}
use Rattle.lowering_invariants.specs.SmallNumbers.{AreSmall}
use Rattle.lowering_locals.specs.UnsetLaws.{started_with}
use Rattle.match_bodies.specs.CodeSites.{Sites}
use Rattle.match_bodies.specs.ProgramImages.{IsMachineMemory}
use Rattle.match_bodies.specs.Bodies.{RepresentsAt}

-- where the first state has its return address
abbrev pub first_stack : ℕ
first_stack = FIRST_STACK

module _ (t : Functions) (fs : List Funclet) (program : LinearProgram) (p : ImagePlan)
    (q : Sites) where
  -- RIP is at `main`, RCX is the argument of the run, and the return address is 0; memory agrees
  -- with what the program begins with; the host has no vectored handlers
  pub record IsFirst (arg : ℤ) (s : State) : Type 0 where
    pub cpu : s.cpu ≡ first_cpu (q.function program.main) arg
    pub memory : IsMachineMemory t fs program p q s.memory (first_memory program.globals)
    pub returns : word s.memory first_stack ≡ Ok 0
    pub no_handlers : s.vectored ≡ []

  -- a few turns that show nothing, and eight more for each 1 that `main` weighs above 1, come to
  -- its first instruction: its arguments are its first locals, and numbers that the stack held are
  -- in the others
  pub record MainBegins (arg : ℤ) (main : LinearFunction) (s : State) : Type 0 where
    pub values : List ℕ
    pub as_many : length values ≡ main.body.locals - main.parameters
    pub small : AreSmall values
    pub turns : ℕ
    pub few : turns ≤ most_before_main + 8 * main.surplus
    pub state : State
    pub comes : Comes t fs turns s [] state
    pub begins : RepresentsAt t fs program p q state (started_with program arg main values)
