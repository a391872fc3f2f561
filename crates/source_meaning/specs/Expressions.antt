-- What expressions do, given what the tasks inside them do (C11, 6.5). Operands are evaluated from
-- left to right.
--
-- `expression`, `statement`, `search`, `run_filter`, `run_finally`: what each does, given what the
-- tasks inside it do. Operands are evaluated from left to right. Filters run innermost first,
-- before any `__finally` block; the blocks run for every result that leaves their `__try`. A
-- continued fault makes the operation again on the same operands. A noncontinuable exception that
-- is continued raises C0000025 (Microsoft C reference, "Writing an exception handler").
use Rattle.std.specs.Prelude.{ℕ, ◌+◌, ◌*◌, ◌%◌, Bool, false, not, nat_eq, if◌then◌else◌, List}
use Rattle.std.specs.Prelude.{[], ◌∷◌, ◌++◌, length, reverse, slice_get, get_or, replicate, pos}
use Rattle.std.specs.Prelude.{int_div, Option, Some, None, is_some}
use Rattle.seh_num.specs.declared.width.Width.{Width}
use Rattle.seh_num.specs.declared.width.Width.TheVariants.{W8, W16, W32, W64}
use Rattle.seh_num.specs.declared.event.Event.TheVariants as events
use Rattle.seh_num.specs.Widths.{low, signed, wrapped}
use Rattle.flat_memory.specs.Memory.{protected, rights_asked}
use Rattle.c_operations.specs.declared.field.Field.{Field}
use Rattle.c_operations.specs.declared.field.Field.TheVariants as fields
use Rattle.c_operations.specs.declared.operation.Operation.{Operation}
use Rattle.c_operations.specs.declared.operation.Operation.TheVariants.{Load, Store}
use Rattle.c_operations.specs.declared.operation.Pure.TheVariants.{Add, Subtract}
use Rattle.c_operations.specs.declared.operation.Size.TheVariants.{Long}
use Rattle.c_operations.specs.Numbers.{width, extended, result_of}
use Rattle.c_operations.specs.Performed as performing
use Rattle.c_operations.specs.Performed.{performed}
use Rattle.c_checked.specs.declared.expression.Access.{Access}
use Rattle.c_checked.specs.declared.expression.Conversion.{Conversion}
use Rattle.c_checked.specs.declared.expression.Conversion.TheVariants.{Kept, Extend, Scale}
use Rattle.c_operations.specs.declared.built_in.BuiltIn.{BuiltIn}
use Rattle.c_operations.specs.declared.built_in.BuiltIn.TheVariants.{Put, Protect, RaiseException}
use Rattle.c_operations.specs.declared.built_in.BuiltIn.TheVariants.{Walk, AddVectored}
use Rattle.c_operations.specs.declared.built_in.BuiltIn.TheVariants.{RemoveVectored}
use Rattle.c_checked.specs.declared.expression.Fixity.{Fixity}
use Rattle.c_checked.specs.declared.expression.Fixity.TheVariants.{Postfix, Prefix}
use Rattle.c_checked.specs.Expression as nodes
use Rattle.c_checked.specs.Expression.{Expression, On, Node, Lvalue, Local, Global, Stacked}
use Rattle.c_checked.specs.Expression.{Indirection}
use Rattle.c_checked.specs.Expression.{Element, Arguments, Done, Next}
use Rattle.c_checked.specs.Statement.{Statements, Empty, Then}
use Rattle.c_checked.specs.Program.{Program, Function, weight, surplus}
use Rattle.source_meaning.specs.declared.ended.Ended.TheVariants.{Undefined}
use Rattle.source_meaning.specs.Source.{is_reserved}
use Rattle.source_meaning.specs.State.{Exception, State, Value, Normal, Returned, Target, End, Outcome}
use Rattle.source_meaning.specs.State.{Gives, choose, local_of, set_local, set_memory, set_vectored}
use Rattle.source_meaning.specs.State.{emit, deeper}
use Rattle.source_meaning.specs.State.{with_value, and_then, with_activation, with_outermost}
use Rattle.source_meaning.specs.State.{emit_all, walk_events, counting, hold_surplus, let_go_surplus}
use Rattle.source_meaning.specs.DataStack.{open_frame, close_part}
use Rattle.vectored_list.specs.Lists.{is_listed, can_be_added, added, removed}
use Rattle.source_meaning.specs.Tasks.{Context, part_of, Eval, Locate, Run, Raise, Retry, Does}

-- ---- values

abbrev pub of_test : Bool → ℕ
of_test b = if b then 1 else 0

-- as its place asks for it
abbrev pub converted : Conversion → ℕ → ℕ
converted Kept v = v
converted (Extend s from size) v = extended s from (width size) v
converted (Scale s from by) v = low W64 (extended s from W64 v * by)

-- the width of the numbers that represent values of a type of this width
abbrev pub value_width : Width → Width
value_width W8 = W32
value_width W16 = W32
value_width W32 = W32
value_width W64 = W64

-- bytes that were read, as a value
abbrev pub value_of : Access → ℕ → ℕ
value_of access v = extended access.signedness access.width (value_width access.width) v

-- how many things of this size lie between two addresses, towards zero
abbrev pub apart : ℕ → ℕ → ℕ → ℕ
apart size a b = wrapped W64 (int_div (signed W64 (result_of (Subtract Long) a b)) (pos size))

abbrev pub incremented_value : Fixity → ℕ → ℕ → ℕ
incremented_value Postfix old new = old
incremented_value Prefix old new = new

-- ---- exceptions

abbrev pub count_of : Option (Bool × ℕ) → ℕ
count_of None = 0
count_of (Some access) = 2

abbrev pub parameter_of : Option (Bool × ℕ) → ℕ → ℕ
parameter_of None k = 0
parameter_of (Some access) k =
    if nat_eq k 0 then of_test access.0 else if nat_eq k 1 then access.1 else 0

-- what a filter reads
abbrev pub field_of : Field → Exception → ℕ
field_of fields.ExceptionCode exc = exc.code
field_of fields.ExceptionFlags exc = of_test exc.flag
field_of fields.NumberParameters exc = count_of exc.access
field_of (fields.ExceptionInformation k) exc = parameter_of exc.access k

abbrev pub raised : ℕ → ℕ → Exception
raised code flags = record { code = low W32 code; flag = nat_eq (flags % 2) 1; access = None }

-- ---- operations that may fault

-- a fault is raised, and where that is continued the operation is made again on the same operands
abbrev pub tried : Does → Operation → ℕ → ℕ → Context → State → performing.OperationResult → Outcome
tried does o a b context st (performing.Gives v memory) = Gives (Value v) (set_memory st memory)
tried does o a b context st (performing.Raises code access) =
    and_then (does (Raise (record { code = code.0; flag = false; access = access })) context st)
    (λ st. does (Retry o a b) context st)
tried does o a b context st (performing.Undefined a') = Gives (End (Some (Undefined a'))) st

abbrev pub operate : Program → Does → Operation → ℕ → ℕ → Context → State → Outcome
operate program does o a b context st =
    tried does o a b context st (performed (is_reserved program.globals) o a b st.memory)

-- ---- places

-- where a variable on the data stack stands
abbrev pub stacked_address : (base offset : ℕ) → Context → State → ℕ
stacked_address base offset context st =
    result_of (Add Long) (local_of st context.activation base) offset

abbrev pub locate : Does → Lvalue → Context → State → Outcome
locate does (Local x) context st = Gives (Value 0) st
locate does (Global access a) context st = Gives (Value a) st
locate does (Stacked access base offset) context st =
    Gives (Value (stacked_address base offset context st)) st
locate does (Indirection access e) context st = does (Eval e) context st
locate does (Element access e i) context st =
    with_value (does (Eval e) context st)
    (λ a st. with_value (does (Eval i) context st)
    (λ n st. Gives (Value (result_of (Add Long) a n)) st))

abbrev pub load : Program → Does → Access → ℕ → Context → State → Outcome
load program does access a context st =
    with_value (operate program does (Load access.width) a 0 context st)
    (λ v st. Gives (Value (value_of access v)) st)

-- what is at a place that was located
abbrev pub read : Program → Does → Lvalue → ℕ → Context → State → Outcome
read program does (Local x) a context st = Gives (Value (local_of st context.activation x)) st
read program does (Global access _) a context st = load program does access a context st
read program does (Stacked access _ _) a context st = load program does access a context st
read program does (Indirection access _) a context st = load program does access a context st
read program does (Element access _ _) a context st = load program does access a context st

-- a value goes to such a place, and is the value of the assignment
abbrev pub write : Program → Does → Lvalue → ℕ → ℕ → Context → State → Outcome
write program does (Local x) a v context st = Gives (Value v) (set_local st context.activation x v)
write program does (Global access _) a v context st =
    operate program does (Store access.width) a v context st
write program does (Stacked access _ _) a v context st =
    operate program does (Store access.width) a v context st
write program does (Indirection access _) a v context st =
    operate program does (Store access.width) a v context st
write program does (Element access _ _) a v context st =
    operate program does (Store access.width) a v context st

-- ---- calls

abbrev pub each : Does → Arguments → Context → State → (List ℕ → State → Outcome) → Outcome
each does Done context st go = go [] st
each does (Next e es) context st go =
    with_value (does (Eval e) context st)
    (λ v st. each does es context st (λ vs st. go (v ∷ vs) st))

-- statements, one after another
abbrev pub all : Does → Statements → Context → State → Outcome
all does Empty context st = Gives Normal st
all does (Then s ss) context st = and_then (does (Run s) context st) (λ st. all does ss context st)

-- a call's end: its activation is gone, with what it held; but where a target has left it, both
-- count in the depth until that lands; an end of the program goes out at once
unfoldable pub ended_call : ℕ → ℕ → Outcome → Outcome
ended_call n s (Gives (End e) st) = Gives (End e) st
ended_call n s (Gives Normal st) = Gives (Value 0) (with_outermost n (let_go_surplus s st))
ended_call n s (Gives (Returned v) st) = Gives (Value v) (with_outermost n (let_go_surplus s st))
ended_call n s (Gives (Target to exc) st) =
    Gives (Target to exc) (with_outermost n (record st { held = st.held + 1 }))
ended_call n s (Gives how st) = Gives how (with_outermost n (let_go_surplus s st))

abbrev pub no_exception : Exception
no_exception = record { code = 0; flag = false; access = None }

-- where a function's body is: under the handlers of the call, in an activation of its own
abbrev pub inside : Function → (activation : ℕ) → Context → Context
inside f k context =
    record {
      handlers = context.handlers;
      activation = k;
      data_part = part_of f.data_frame;
      exception = no_exception;
      abnormal = false;
    }

-- the body of the function of this number, in an activation whose locals are 0 beside the
-- parameters. An activation counts its function's weight in the depth, and what that is above 1 in
-- steps, where it begins
abbrev pub enter : Program → Does → ℕ → Option Function → List ℕ → Context → State → Outcome
enter program does number None vs context st = Gives (Value 0) st
enter program does number (Some f) vs context st =
    deeper (weight f) st (λ st. counting (surplus f) st
    (λ st. ended_call (length st.frames) (surplus f)
    (close_part (part_of f.data_frame) (length st.frames)
    (open_frame program f.data_frame (length st.frames)
    (with_activation number (vs ++ replicate (length f.locals) 0) (hold_surplus (surplus f) st))
    (all does f.body (inside f (length st.frames) context))))))

abbrev pub call_built_in : Does → BuiltIn → List ℕ → Context → State → Outcome
call_built_in does Put vs context st =
    Gives (Value 0) (emit (events.Put (signed W64 (get_or vs 0 0))) st)
call_built_in does Protect vs context st =
    let a = get_or vs 0 0 in
    let mode = signed W32 (get_or vs 1 0) in
    Gives (Value (of_test (is_some (rights_asked a mode))))
    (set_memory st (protected st.memory a mode))
call_built_in does RaiseException vs context st =
    and_then (does (Raise (raised (get_or vs 0 0) (get_or vs 1 0))) context st)
    (λ st. Gives (Value 0) st)
call_built_in does (AddVectored f) vs context st =
    Gives (Value (of_test (can_be_added f st.vectored)))
    (set_vectored st (added (not (nat_eq (low W32 (get_or vs 0 0)) 0)) f st.vectored))
call_built_in does (RemoveVectored f) vs context st =
    Gives (Value (of_test (is_listed f st.vectored))) (set_vectored st (removed f st.vectored))
call_built_in does Walk vs context st =
    Gives (Value 0) (emit_all (walk_events (reverse st.functions)) st)

-- ---- expressions

abbrev pub node : Program → Does → Node → Context → State → Outcome
node program does (nodes.Constant z n) context st = Gives (Value n) st
node program does (nodes.StackedArray base offset) context st =
    Gives (Value (stacked_address base offset context st)) st
node program does (nodes.Read p) context st =
    with_value (locate does p context st) (λ a st. read program does p a context st)
node program does (nodes.AddressOf p) context st = does (Locate p) context st
node program does (nodes.Assign p e) context st =
    with_value (does (Locate p) context st)
    (λ a st. with_value (does (Eval e) context st)
    (λ v st. write program does p a v context st))
node program does (nodes.CompoundAssign p before o e after) context st =
    with_value (does (Locate p) context st) (λ a st.
    with_value (read program does p a context st) (λ x st.
    with_value (does (Eval e) context st) (λ y st.
    with_value (operate program does o (converted before x) y context st)
    (λ z st. write program does p a (converted after z) context st))))
node program does (nodes.Increment m p before o n after) context st =
    with_value (does (Locate p) context st) (λ a st.
    with_value (read program does p a context st) (λ x st.
    with_value (operate program does o (converted before x) n context st) (λ z st.
    with_value (write program does p a (converted after z) context st)
    (λ new st. Gives (Value (incremented_value m x new)) st))))
node program does (nodes.Unary o e) context st =
    with_value (does (Eval e) context st) (λ v st. Gives (Value (result_of o v 0)) st)
node program does (nodes.Binary o e f) context st =
    with_value (does (Eval e) context st)
    (λ x st. with_value (does (Eval f) context st)
    (λ y st. operate program does o x y context st))
node program does (nodes.PointerDifference size e f) context st =
    with_value (does (Eval e) context st)
    (λ x st. with_value (does (Eval f) context st) (λ y st. Gives (Value (apart size x y)) st))
node program does (nodes.Not e) context st =
    with_value (does (Eval e) context st) (λ v st. Gives (Value (of_test (nat_eq v 0))) st)
node program does (nodes.And e f) context st =
    with_value (does (Eval e) context st) (λ x st.
    choose (nat_eq x 0) (λ st. Gives (Value 0) st)
    (λ st. with_value (does (Eval f) context st)
    (λ y st. Gives (Value (of_test (not (nat_eq y 0)))) st)) st)
node program does (nodes.Or e f) context st =
    with_value (does (Eval e) context st) (λ x st.
    choose (nat_eq x 0) (λ st. with_value (does (Eval f) context st)
    (λ y st. Gives (Value (of_test (not (nat_eq y 0)))) st)) (λ st. Gives (Value 1) st) st)
node program does (nodes.Conditional c e f) context st =
    with_value (does (Eval c) context st)
    (λ x st. choose (nat_eq x 0) (λ st. does (Eval f) context st)
    (λ st. does (Eval e) context st) st)
node program does (nodes.Comma e f) context st =
    with_value (does (Eval e) context st) (λ x st. does (Eval f) context st)
node program does (nodes.Call f es) context st =
    each does es context st
    (λ vs st. enter program does f (slice_get program.functions f) vs context st)
node program does (nodes.CallBuiltIn k es) context st =
    each does es context st (λ vs st. call_built_in does k vs context st)
node program does nodes.ExceptionCode context st = Gives (Value context.exception.code) st
node program does (nodes.Information f) context st = Gives (Value (field_of f context.exception)) st
node program does nodes.AbnormalTermination context st = Gives (Value (of_test context.abnormal)) st

abbrev pub expression : Program → Does → Expression → Context → State → Outcome
expression program does (On n c) context st =
    with_value (node program does n context st) (λ v st. Gives (Value (converted c v)) st)
