-- What statements do, given what the tasks inside them do (C11, 6.8; Microsoft C reference,
-- "try-except statement", "try-finally statement").
use Rattle.std.specs.Prelude.{ℕ, Bool, true, false, nat_eq, List, [], ◌∷◌, length, Option, Some}
use Rattle.std.specs.Prelude.{None}
use Rattle.seh_num.specs.declared.event.Event.TheVariants as events
use Rattle.c_checked.specs.Expression.{Expression}
use Rattle.c_checked.specs.Statement.{Declared, Filter, Statement, Declare, Block, Evaluate, If}
use Rattle.c_checked.specs.Statement.{IfElse, For, DoWhile, Return, Break, Continue, Leave}
use Rattle.c_checked.specs.Statement.{TryExcept, TryFinally}
use Rattle.c_checked.specs.declared.statement.StackedVariable.{StackedVariable}
use Rattle.c_checked.specs.Program.{Program}
use Rattle.source_meaning.specs.State.{Exception, State, Normal, Returned, Broke, Continued, LeftTry}
use Rattle.source_meaning.specs.State.{Target, End, Outcome, Gives, choose, set_local, emit, with_value}
use Rattle.source_meaning.specs.State.{and_then}
use Rattle.source_meaning.specs.Tasks.{Handler, Context, Eval, Run, ForIteration, DoIteration, TryBody}
use Rattle.source_meaning.specs.Tasks.{RunFinally, Does}
use Rattle.source_meaning.specs.DataStack.{reset_pointer, put, clear}
use Rattle.source_meaning.specs.Expressions.{all}

-- continues with the value of an expression, and with a default where there is none
abbrev pub optional : Does → ℕ → Option Expression → Context → State → (ℕ → State → Outcome)
    → Outcome
optional does default None context st go = go default st
optional does default (Some e) context st go = with_value (does (Eval e) context st) go

-- a variable on the data stack is 0 first, and an array has no initialiser
abbrev pub declare_stacked : Program → Does → StackedVariable → Option ℕ → Option Expression
    → Context → State → Outcome
declare_stacked program does v (Some n) value context st =
    clear program v context.activation n st (λ st. Gives Normal st)
declare_stacked program does v None None context st =
    put program v context.activation 0 st (λ st. Gives Normal st)
declare_stacked program does v None (Some e) context st =
    put program v context.activation 0 st (λ st.
    with_value (does (Eval e) context st) (λ x st.
    put program v context.activation x st (λ st. Gives Normal st)))

abbrev pub declare_at : Program → Does → Option StackedVariable → (local : ℕ) → Option Expression
    → Context → State → Outcome
declare_at program does None x value context st =
    optional does 0 value context (set_local st context.activation x 0)
    (λ v st. Gives Normal (set_local st context.activation x v))
declare_at program does (Some v) x value context st =
    declare_stacked program does v v.elements value context st

-- a declared name is 0 first, in its own initialiser too
abbrev pub declare : Program → Does → Declared → Context → State → Outcome
declare program does d context st =
    declare_at program does d.stacked d.local d.value context st

abbrev pub declare_each : Does → List Declared → Context → State → Outcome
declare_each does [] context st = Gives Normal st
declare_each does (d ∷ ds) context st =
    and_then (does (Run (Declare d)) context st) (λ st. declare_each does ds context st)

-- a loop's body: `break` and `continue` end it (C11, 6.8.6)
unfoldable pub in_loop : Outcome → (State → Outcome) → Outcome
in_loop (Gives Normal st) go = go st
in_loop (Gives Continued st) go = go st
in_loop (Gives Broke st) go = Gives Normal st
in_loop o go = o

-- a `__try` with an `__except`: a target that names this handler lands in its block, and `__leave`
-- ends the body
unfoldable pub landing : ℕ → ℕ → Outcome → (Exception → State → Outcome) → Outcome
landing level held (Gives LeftTry st) go = Gives Normal st
landing level held (Gives (Target to exc) st) go =
    choose (nat_eq to level) (λ st. go exc (emit (events.Except (record { 0 = exc.code }))
    (record st { held = held }))) (λ st. Gives (Target to exc) st) st
landing level held o go = o

-- a `__try` with a `__finally`: the block runs for every result but an end, and then that result
-- continues
unfoldable pub finally_after : Outcome → (Bool → State → Outcome) → Outcome
finally_after (Gives (End e) st) last = Gives (End e) st
finally_after (Gives Normal st) last = last false st
finally_after (Gives LeftTry st) last = last false st
finally_after (Gives how st) last = and_then (last true st) (λ st. Gives how st)

abbrev pub handler : Filter → Context → Handler
handler filter context =
    record { filter = filter; activation = context.activation; abnormal = context.abnormal }

abbrev pub statement : Program → Does → Statement → Context → State → Outcome
statement program does (Declare d) context st = declare program does d context st
statement program does (Block ss) context st = all does ss context st
statement program does (Evaluate e) context st =
    optional does 0 e context st (λ v st. Gives Normal st)
statement program does (If c s) context st =
    with_value (does (Eval c) context st)
    (λ v st. choose (nat_eq v 0) (λ st. Gives Normal st) (λ st. does (Run s) context st) st)
statement program does (IfElse c s t) context st =
    with_value (does (Eval c) context st)
    (λ v st. choose (nat_eq v 0) (λ st. does (Run t) context st)
    (λ st. does (Run s) context st) st)
statement program does (For ds first c next s) context st =
    and_then (declare_each does ds context st)
    (λ st. optional does 0 first context st (λ v st. does (ForIteration c next s) context st))
statement program does (DoWhile s c) context st = does (DoIteration s c) context st
statement program does (Return e) context st =
    optional does 0 e context st (λ v st. Gives (Returned v) st)
statement program does Break context st = Gives Broke st
statement program does Continue context st = Gives Continued st
statement program does Leave context st = Gives LeftTry st
statement program does (TryExcept body filter block) context st =
    landing (length context.handlers) st.held
    (does (TryBody body) (record context { handlers = handler filter context ∷ context.handlers })
    st)
    (λ exc st. all does block (record context { exception = exc })
    (reset_pointer context.data_part context.activation st))
statement program does (TryFinally body k last) context st =
    finally_after (does (TryBody body) context st)
    (λ flag st. does (RunFinally k last flag) context st)

-- an iteration of `for` or `while`, and those after it; a missing condition holds (C11, 6.8.5)
abbrev pub for_iteration : Does → Option Expression → Option Expression → Statement → Context
    → State → Outcome
for_iteration does c next s context st =
    optional does 1 c context st (λ v st.
    choose (nat_eq v 0) (λ st. Gives Normal st)
    (λ st. in_loop (does (Run s) context st)
    (λ st. optional does 0 next context st
    (λ w st. does (ForIteration c next s) context st))) st)

-- an iteration of `do`, and those after it (C11, 6.8.5.2)
abbrev pub do_iteration : Does → Statement → Expression → Context → State → Outcome
do_iteration does s c context st =
    in_loop (does (Run s) context st) (λ st.
    with_value (does (Eval c) context st)
    (λ v st. choose (nat_eq v 0) (λ st. Gives Normal st)
    (λ st. does (DoIteration s c) context st) st))
