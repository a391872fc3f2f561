-- Raises, vectored handlers, filters and `__finally` blocks, given what the tasks inside them do
-- (Microsoft C reference, "Writing an exception handler").
--
-- `ask_from`, `ask_vectored`, `vectored_answered`: a raise asks the vectored handlers first, from
-- the front of their list on, as it stands each time. Each is called with the code and the flag,
-- under the handlers of the raise point. Its answer, an `int`, continues where it is below 0, as a
-- filter's does. After any other the place in the list rises by one, and past the end of the list
-- the handlers are asked (Windows headers, `errhandlingapi.h`; own).
use Rattle.std.specs.Prelude.{ℕ, ◌+◌, ◌^◌, Bool, true, nat_eq, nat_lt, List, [], ◌∷◌, length}
use Rattle.std.specs.Prelude.{slice_get}
use Rattle.std.specs.Prelude.{Option, Some, None}
use Rattle.seh_num.specs.declared.width.Width.TheVariants.{W32}
use Rattle.seh_num.specs.declared.event.Event.{Event}
use Rattle.seh_num.specs.declared.event.Event.TheVariants as events
use Rattle.seh_num.specs.Widths.{low, signed}
use Rattle.seh_num.specs.declared.code.TheConstants.{NONCONTINUABLE_EXCEPTION}
use Rattle.c_checked.specs.Expression.{Expression}
use Rattle.c_checked.specs.Program.{Program}
use Rattle.c_checked.specs.Statement.{Filter, Always, Funclet, Statements}
use Rattle.source_meaning.specs.declared.ended.Ended.TheVariants.{Unhandled}
use Rattle.source_meaning.specs.State.{Exception, State, Value, Normal, Target, End, Outcome, Gives}
use Rattle.source_meaning.specs.State.{choose, emit, hold, let_go, deeper, with_value, and_then}
use Rattle.source_meaning.specs.Tasks.{Handler, Context, Eval, Raise, AskVectored, RunFilter, Does}
use Rattle.source_meaning.specs.DataStack.{reset_pointer_if}
use Rattle.source_meaning.specs.Expressions.{of_test, all, enter}

-- what is raised where a noncontinuable exception is continued
abbrev pub noncontinuable : Exception
noncontinuable = record { code = NONCONTINUABLE_EXCEPTION.0; flag = true; access = None }

abbrev pub raise_event : Exception → Event
raise_event exc = events.Raise (record { 0 = exc.code }) exc.flag exc.access

-- an exception is continued, unless it can't be
abbrev pub continued : Does → Exception → Context → State → Outcome
continued does exc context st =
    choose exc.flag (λ st. does (Raise noncontinuable) context st) (λ st. Gives Normal st) st

-- a filter's answer is an `int`, its low 32 bits: above 0 takes over, 0 asks the next, and below 0
-- continues
abbrev pub answered : Does → ℕ → ℕ → Exception → Context → State → (State → Outcome) → Outcome
answered does v level exc context st next =
    choose (nat_eq (low W32 v) 0) next (
    choose (nat_lt (low W32 v) (2 ^ 31)) (λ st. Gives (Target level exc) st)
    (λ st. continued does exc context st)) st

-- the handlers in order, innermost first, for an exception raised at this point
abbrev pub search_by : Does → Filter → Handler → ℕ → Exception → Context → State → (State → Outcome)
    → Outcome
search_by does Always h level exc context st next = Gives (Target level exc) st
search_by does (Funclet k e) h level exc context st next =
    with_value (does (RunFilter k e h exc) context st)
    (λ v st. answered does v level exc context st next)

abbrev pub search : Does → List Handler → Exception → Context → State → Outcome
search does [] exc context st = Gives (End (Some (Unhandled (record { 0 = exc.code })))) st
search does (h ∷ outer) exc context st =
    search_by does h.filter h (length outer) exc context st (λ st. search does outer exc context st)

-- ---- vectored handlers, which are asked before those (Windows headers, `errhandlingapi.h`)

-- the one at a place of their list, or where there is none the handlers
abbrev pub ask_at : Does → Option ℕ → (place : ℕ) → Exception → Context → State → Outcome
ask_at does None place exc context st = search does context.handlers exc context st
ask_at does (Some f) place exc context st = does (AskVectored f place exc) context st

-- those from a place of their list on, as it stands; past its end the handlers
abbrev pub ask_from : Does → (place : ℕ) → Exception → Context → State → Outcome
ask_from does place exc context st =
    ask_at does (slice_get st.vectored place) place exc context st

-- its answer below 0 continues, and after any other the next one is asked
abbrev pub vectored_answered : Does → ℕ → (place : ℕ) → Exception → Context → State → Outcome
vectored_answered does v place exc context st =
    choose (nat_lt (low W32 v) (2 ^ 31)) (λ st. ask_from does (place + 1) exc context st)
    (λ st. continued does exc context st) st

-- it is called with the code and the flag, under the handlers of the raise point
abbrev pub handler_arguments : Exception → List ℕ
handler_arguments exc = exc.code ∷ of_test exc.flag ∷ []

abbrev pub ask_vectored : Program → Does → (handler place : ℕ) → Exception → Context → State
    → Outcome
ask_vectored program does f place exc context st =
    deeper 2 st (λ st.
    with_value
    (enter program does f (slice_get program.functions f) (handler_arguments exc) context (hold st))
    (λ v st. vectored_answered does v place exc context (let_go st)))

-- ---- filters and `__finally` blocks

-- a filter, under the handlers of the raise point, with names of its own activation
abbrev pub run_filter : Does → ℕ → Expression → Handler → Exception → Context → State → Outcome
run_filter does k e h exc context st =
    deeper 2 st (λ st.
    with_value (does (Eval e) (record {
      handlers = context.handlers;
      activation = h.activation;
      data_part = None;
      exception = exc;
      abnormal = h.abnormal;
    }) (emit (events.Filter k) (hold st)))
    (λ v st. Gives (Value v) (emit (events.Answer (signed W32 v)) (let_go st))))

abbrev pub run_finally : Does → ℕ → Statements → Bool → Context → State → Outcome
run_finally does k last flag context st =
    deeper 2 st (λ st.
    and_then (all does last (record context { abnormal = flag })
    (emit (events.Finally k flag)
    (hold (reset_pointer_if flag context.data_part context.activation st))))
    (λ st. Gives Normal (let_go st)))
