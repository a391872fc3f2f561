-- What a program means: what it shows within some steps, and how it ends.
--
-- The main definitions: `meaning`, `Calm`.
use Rattle.std.specs.Prelude.{ℕ, zero, suc, Bool, true, false, List, [], ◌∷◌, slice_get, ℤ, Option}
use Rattle.std.specs.Prelude.{Some, None}
use Rattle.seh_num.specs.declared.width.Width.TheVariants.{W32, W64}
use Rattle.seh_num.specs.Widths.{signed, wrapped}
use Rattle.seh_num.specs.Shown.{Shown}
use Rattle.flat_memory.specs.Memory.{first_refused, number_at, with_number}
use Rattle.c_operations.specs.declared.operation.Size.{Size}
use Rattle.c_checked.specs.Program.{Program, Function}
use Rattle.source_meaning.specs.declared.ended.Ended.{Ended}
use Rattle.source_meaning.specs.declared.ended.Ended.TheVariants.{Exit, Undefined, Deep}
use Rattle.source_meaning.specs.Source.{first_memory}
use Rattle.source_meaning.specs.State.{State, Value, End, Outcome, Gives, choose, deeper, with_value}
use Rattle.source_meaning.specs.State.{and_then}
use Rattle.source_meaning.specs.Tasks.{Context, Eval, Locate, Run, ForIteration, DoIteration, TryBody}
use Rattle.source_meaning.specs.Tasks.{Raise, AskVectored, RunFilter, RunFinally, Retry, Does}
use Rattle.source_meaning.specs.Tasks.{counted}
use Rattle.source_meaning.specs.Expressions.{no_exception, operate, locate, all, ended_call, enter}
use Rattle.source_meaning.specs.Expressions.{expression}
use Rattle.source_meaning.specs.Statements.{in_loop, landing, finally_after, statement, for_iteration}
use Rattle.source_meaning.specs.Statements.{do_iteration}
use Rattle.source_meaning.specs.DataStack.{given, close, clear}
use Rattle.source_meaning.specs.Raises.{raise_event, ask_from, ask_vectored, run_filter}
use Rattle.source_meaning.specs.Raises.{run_finally}
use Rattle.source_meaning.specs.State.{emit, counting}

-- what each task does, given what the tasks inside it do
abbrev pub perform : Program → Does → Does
perform program does (Eval e) context st = expression program does e context st
perform program does (Locate p) context st = locate does p context st
perform program does (Run s) context st = statement program does s context st
perform program does (ForIteration c next s) context st = for_iteration does c next s context st
perform program does (DoIteration s c) context st = do_iteration does s c context st
perform program does (TryBody ss) context st = all does ss context st
perform program does (Raise exc) context st =
    ask_from does 0 exc context (emit (raise_event exc) st)
perform program does (AskVectored f place exc) context st =
    ask_vectored program does f place exc context st
perform program does (RunFilter k e h exc) context st = run_filter does k e h exc context st
perform program does (RunFinally k last flag) context st = run_finally does k last flag context st
perform program does (Retry o a b) context st = operate program does o a b context st

-- at most n tasks inside one another
abbrev pub within : Program → ℕ → Does
within program zero task context st = Gives (End None) st
within program (suc n) task context st =
    counted st (λ st. perform program (within program n) task context st)

-- what a task does: there are as many tasks inside one another as steps at most
abbrev pub does : Program → Does
does program task context st = within program st.steps_left task context st

abbrev pub start : Program → ℕ → State
start program n =
    record {
      steps_left = n;
      memory = first_memory program.globals;
      frames = [];
      functions = [];
      held = 0;
      events = [];
      vectored = [];
    }

abbrev pub outside : Context
outside =
    record {
      handlers = [];
      activation = 0;
      data_part = None;
      exception = no_exception;
      abnormal = false;
    }

-- the argument of the run goes to a `main` that has a parameter
abbrev pub for_parameters : List Size → ℕ → List ℕ
for_parameters [] arg = []
for_parameters (p ∷ ps) arg = arg ∷ []

abbrev pub main_arguments : Option Function → ℤ → List ℕ
main_arguments None arg = []
main_arguments (Some f) arg = for_parameters f.parameters (wrapped W64 arg)

abbrev pub ran : Program → ℤ → ℕ → Outcome
ran program arg n =
    let main = slice_get program.functions program.main in
    enter program (does program) program.main main (main_arguments main arg) outside
    (start program n)

-- the events within some steps, and the end, if it is within them too
abbrev pub shows : Outcome → Shown Ended
shows (Gives (Value v) st) = record { events = st.events; end = Some (Exit (signed W32 v)) }
shows (Gives (End e) st) = record { events = st.events; end = e }
shows (Gives how st) = record { events = st.events; end = None }

-- the events within n steps, and the end, if it is within them. An end is a number, unhandled,
-- undefined at a reserved address, or too deep, where the depth, the live activations and what is
-- held, would rise above 1,000 (own).
abbrev pub meaning : Program → ℤ → ℕ → Shown Ended
meaning program arg n = shows (ran program arg n)

-- ---- Calm

abbrev pub is_calm : Option Ended → Bool
is_calm (Some (Undefined a)) = false
is_calm (Some (Deep d)) = false
is_calm end = true

-- within n steps no reserved byte is touched, and the depth is at most 1,000
abbrev pub Calm : Program → ℤ → ℕ → Bool
Calm program arg n = is_calm (meaning program arg n).end

-- what a proof opens, by `unfolding computed`, to compute a meaning
unfoldable pub computed : ℕ
unfolding choose deeper counting with_value and_then ended_call in_loop landing finally_after
    counted first_refused number_at with_number given close clear
computed = 0
