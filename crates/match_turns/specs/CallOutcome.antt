-- Where a function begins.
--
-- The main definitions: `CallBegins`, `FunctionsApart`.
use Rattle.std.specs.Prelude.{◌≡◌, ◌≢◌, ℕ, ◌+◌, ◌-◌, ◌*◌, ◌<◌, ◌≤◌, List, [], ◌∷◌, ◌++◌, length, slice_get, Some, None}
use Rattle.seh_num.specs.declared.event.Event.{Event}
use Rattle.x64_machine.specs.Effect.{State}
use Rattle.virtual_unwind.specs.CallerOf.{Functions}
use Rattle.host_model.specs.declared.funclet.Funclet.{Funclet}
use Rattle.source_meaning.specs.Expressions.{no_exception}
use Rattle.linear_code.specs.declared.instruction.Instruction.TheVariants as instructions
use Rattle.linear_code.specs.Program.{LinearProgram, LinearFunction}
use Rattle.linear_machine.specs.Frames.{FunctionBody, Item, Waits, Store, Configuration, Next}
use Rattle.linear_machine.specs.Instructions.{waiting, begin_function, act}
use Rattle.match_stack.specs.ImagePlan.{ImagePlan}
use Rattle.match_runs.specs.Comes.{Comes}
use Rattle.lowering_invariants.specs.SmallNumbers.{AreSmall}
use Rattle.match_bodies.specs.CodeSites.{Sites}
use Rattle.match_bodies.specs.Bodies.{turns_left, RepresentsAt}

-- turns that a call takes at most, with what earlier steps left: 26, and 8 for the two more pages
-- that each 1 of its function's surplus gives the frame
abbrev pub turns_per_call : (surplus : ℕ) → ℕ
turns_per_call surplus = 26 + 8 * surplus

-- linear code where a function begins, with these numbers in its locals
abbrev pub begun : (f : ℕ) (values : List ℕ) (held : ℕ) (below : List Item) (source : Store)
    → List (List ℕ) → List Event → Configuration
begun f values held below source activations es = record {
  frame =
      record {
        body = FunctionBody f;
        next = 0;
        activation = length activations;
        exception = no_exception;
        held = held;
        temporaries = [];
        landed = None;
      };
  below = below;
  store = record source { activations = activations ++ values ∷ [] };
  events = es;
}

-- no funclet begins where a function does
abbrev pub FunctionsApart : LinearProgram → ImagePlan → Sites → Type 0
FunctionsApart program p q =
    (f k : ℕ) → f < length program.functions → k < length program.funclets
    → q.function f ≢ p.funclet k

module _ (t : Functions) (fs : List Funclet) (program : LinearProgram) (p : ImagePlan)
    (q : Sites) where
  -- a call comes to the callee's first instruction: its arguments are its first locals, and what
  -- the stack or a register held is in the others, which linear code begins with 0
  pub record CallBegins (s : State) (c : Configuration) (f first count : ℕ) : Type 0 where
    pub function : LinearFunction
    pub there : slice_get program.functions f ≡ Some function
    pub arguments : List ℕ
    pub given : length arguments ≡ function.parameters
    pub others : List ℕ
    pub as_many : length others ≡ function.body.locals - function.parameters
    pub small : AreSmall others
    pub turns : ℕ
    pub some : 1 ≤ turns
    pub few : turns + turns_left (begun f (arguments ++ others)
        (c.frame.held + (function.surplus + function.data_surplus))
        (Waits (waiting c first).frame ∷ c.below) c.store c.store.activations c.events)
        ≤ turns_per_call function.surplus + turns_left c
    pub state : State
    pub comes : Comes t fs turns s [] state
    pub acts : (next : Next) → act program (instructions.Call f first count) next c
        ≡ next (begin_function f function arguments c.frame.held
        (Waits (waiting c first).frame ∷ c.below) c.store c.events)
    pub begins : RepresentsAt t fs program p q state
        (begun f (arguments ++ others) (c.frame.held + (function.surplus + function.data_surplus))
        (Waits (waiting c first).frame ∷ c.below) c.store c.store.activations c.events)
