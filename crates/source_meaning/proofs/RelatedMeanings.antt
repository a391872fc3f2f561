-- Where two meanings of the tasks inside a task are related, so is what the task does.
use Rattle.std.proofs.Common.{ℕ, zero, suc, ◌+◌, List, [], ◌∷◌, length, Option, Some, None}
use Rattle.std.specs.Prelude.{Bool, nat_eq, slice_get}
use Rattle.c_operations.specs.declared.operation.Operation.{Operation}
use Rattle.c_operations.specs.declared.operation.Operation.TheVariants.{Load, Store}
use Rattle.c_operations.specs.Performed as performing
use Rattle.c_operations.specs.Performed.{performed}
use Rattle.c_checked.specs.declared.expression.Access.{Access}
use Rattle.c_operations.specs.declared.built_in.BuiltIn.{BuiltIn}
use Rattle.c_operations.specs.declared.built_in.BuiltIn.TheVariants.{Put, Protect, RaiseException, Walk, AddVectored, RemoveVectored}
use Rattle.c_checked.specs.Expression as nodes
use Rattle.c_checked.specs.Expression.{Expression, On, Node, Lvalue, Local, Global, Stacked, Indirection, Element, Arguments, Done, Next}
use Rattle.c_checked.specs.Statement.{Declared, Filter, Always, Funclet, Statement, Declare, Block, Evaluate, If, IfElse, For, DoWhile, Return, Break, Continue, Leave, TryExcept, TryFinally, Statements, Empty, Then}
use Rattle.source_meaning.specs.Words.{Event, Program, Function, DataFrame, StackedParameter, StackedVariable, weight, surplus, Unhandled, Undefined, Exception, State, local_of, Value, Normal, Returned, Broke, Continued, LeftTry, Target, End, Outcome, set_memory, Handler, DataPart, part_of, Context, Task, Eval, Locate, Run, ForIteration, DoIteration, TryBody, Raise, AskVectored, RunFilter, RunFinally, Retry, Does, tried, operate, locate, load, read, write, each, all, enter, call_built_in, node, expression, optional, declare_stacked, declare_at, declare, declare_each, statement, for_iteration, do_iteration, perform, placing, clearing, bring, open_frame, close_part, put, clear}
use Rattle.source_meaning.specs.Raises.{noncontinuable, continued, answered, search_by, search, ask_at, ask_from, vectored_answered, handler_arguments, ask_vectored, run_filter, run_finally}
use Rattle.source_meaning.specs.Source.{is_reserved}
use Rattle.source_meaning.proofs.Relations.{Relation, Go, GoWith, give, value_go, then_go, loop_go}
use Rattle.source_meaning.proofs.Relations.{choice_go, deeper_go, counting_go, landing_go, finally_go, ended_go, given_go, close_go}

-- from states that are near, f and g do what is related
abbrev pub Related : Relation → Does → Does → Type 0
Related R f g = (task : Task) (context : Context) → Go R (f task context) (g task context)

module _ (R : Relation) (program : Program) (f g : Does) (alike : Related R f g) where
  -- ---- expressions

  tried_go : (o : Operation) (x y : ℕ) (context : Context) (p : performing.OperationResult)
      → Go R (λ st. tried f o x y context st p) (λ st. tried g o x y context st p)
  tried_go o x y context (performing.Gives v m) =
      λ a st l n. give R (Value v) a (set_memory st m) l n
  tried_go o x y context (performing.Raises code access) =
      λ a st l n. then_go R _ _ (alike (Retry o x y) context) a _ _ _
      (alike (Raise _) context a st l n)
  tried_go o x y context (performing.Undefined at) =
      λ a st l n. give R (End (Some (Undefined at))) a st l n

  operate_go : (o : Operation) (x y : ℕ) (context : Context)
      → Go R (operate program f o x y context) (operate program g o x y context)
  operate_go o x y context =
      λ a st l n. tried_go o x y context (performed (is_reserved program.globals) o x y st.memory) a
      st l n

  locate_go : (p : Lvalue) (context : Context) → Go R (locate f p context) (locate g p context)
  locate_go (Local x) context = give R (Value 0)
  locate_go (Global access at) context = give R (Value at)
  locate_go (Stacked access base offset) context = λ a st l n. give R (Value _) a st l n
  locate_go (Indirection access e) context = alike (Eval e) context
  locate_go (Element access e i) context = λ a st l n.
      value_go R _ _ (λ x a st l n. value_go R _ _ (λ y. give R (Value _)) a _ _ _
      (alike (Eval i) context a st l n)) a _ _ _ (alike (Eval e) context a st l n)

  load_go : (access : Access) (at : ℕ) (context : Context)
      → Go R (load program f access at context) (load program g access at context)
  load_go access at context =
      λ a st l n. value_go R _ _ (λ v. give R (Value _)) a _ _ _
      (operate_go (Load access.width) at 0 context a st l n)

  read_go : (p : Lvalue) (at : ℕ) (context : Context)
      → Go R (read program f p at context) (read program g p at context)
  read_go (Local x) at context = λ a st l n. give R (Value _) a st l n
  read_go (Global access _) at context = load_go access at context
  read_go (Stacked access _ _) at context = load_go access at context
  read_go (Indirection access _) at context = load_go access at context
  read_go (Element access _ _) at context = load_go access at context

  write_go : (p : Lvalue) (at v : ℕ) (context : Context)
      → Go R (write program f p at v context) (write program g p at v context)
  write_go (Local x) at v context = λ a st l n. give R (Value v) a _ l n
  write_go (Global access _) at v context = operate_go (Store access.width) at v context
  write_go (Stacked access _ _) at v context = operate_go (Store access.width) at v context
  write_go (Indirection access _) at v context = operate_go (Store access.width) at v context
  write_go (Element access _ _) at v context = operate_go (Store access.width) at v context

  each_go : (es : Arguments) (context : Context) (k k' : List ℕ → State → Outcome)
      → GoWith R (List ℕ) k k' → Go R (λ st. each f es context st k) (λ st. each g es context st k')
  each_go Done context k k' h = h []
  each_go (Next e es) context k k' h = λ a st l n.
      value_go R _ _ (λ v. each_go es context _ _ (λ vs. h (v ∷ vs))) a _ _ _
      (alike (Eval e) context a st l n)

  all_go : (ss : Statements) (context : Context) → Go R (all f ss context) (all g ss context)
  all_go Empty context = give R Normal
  all_go (Then s ss) context =
      λ a st l n. then_go R _ _ (all_go ss context) a _ _ _ (alike (Run s) context a st l n)

  -- ---- the data stack

  bring_go : (base : ℕ) (ps : List StackedParameter) (k : ℕ) (go go' : State → Outcome)
      → Go R go go' → Go R (λ st. bring program base ps k st go)
      (λ st. bring program base ps k st go')
  bring_go base [] k go go' h = h
  bring_go base (p ∷ ps) k go go' h = λ a st l n.
      given_go R (placing program base p.width p.offset k (local_of st k p.parameter) st) _ _
      (λ v. bring_go base ps k go go' h) a st l n

  open_go : (d : Option DataFrame) (k : ℕ) (go go' : State → Outcome) → Go R go go'
      → Go R (λ st. open_frame program d k st go) (λ st. open_frame program d k st go')
  open_go None k go go' h = h
  open_go (Some d) k go go' h = λ a st l n. bring_go d.base d.parameters k go go' h a _ l n

  close_part_go : (part : Option DataPart) (k : ℕ) (a : Bool) (es : List Event) (o o' : Outcome)
      → R.out a es o o' → R.out a es (close_part part k o) (close_part part k o')
  close_part_go None k a es o o' h = h
  close_part_go (Some part) k a es o o' h = close_go R part.base k a es o o' h

  put_go : (v : StackedVariable) (k x : ℕ) (go go' : State → Outcome) → Go R go go'
      → Go R (λ st. put program v k x st go) (λ st. put program v k x st go')
  put_go v k x go go' h = λ a st l n.
      given_go R (placing program v.base v.width v.offset k x st) _ _ (λ x. h) a st l n

  clear_go : (v : StackedVariable) (k n : ℕ) (go go' : State → Outcome) → Go R go go'
      → Go R (λ st. clear program v k n st go) (λ st. clear program v k n st go')
  unfolding clear
  clear_go v k zero go go' h = h
  clear_go v k (suc n) go go' h =
      counting_go R 1 _ _ (λ a st l near.
      given_go R (clearing program v k (suc n) st) _ _ (λ x. clear_go v k n go go' h) a st l near)

  -- ---- calls

  pub enter_go : (number : ℕ) (fn : Option Function) (vs : List ℕ) (context : Context)
      → Go R (enter program f number fn vs context) (enter program g number fn vs context)
  enter_go number None vs context = give R (Value 0)
  enter_go number (Some fn) vs context = λ a st l n.
      deeper_go R (weight fn) _ _
      (counting_go R (surplus fn) _ _
      (λ a st l n. ended_go R (length st.frames) (surplus fn) a _ _ _
      (close_part_go (part_of fn.data_frame) (length st.frames) a _ _ _
      (open_go fn.data_frame (length st.frames) _ _ (all_go fn.body _) a _ l n)))) a st l n

  built_in_go : (k : BuiltIn) (vs : List ℕ) (context : Context)
      → Go R (call_built_in f k vs context) (call_built_in g k vs context)
  built_in_go Put vs context = λ a st l n. R.later a _ _ _ _ (give R (Value 0) a _ l n)
  built_in_go Protect vs context = λ a st l n. give R (Value _) a _ l n
  built_in_go RaiseException vs context =
      λ a st l n. then_go R _ _ (give R (Value 0)) a _ _ _ (alike (Raise _) context a st l n)
  built_in_go Walk vs context = λ a st l n. R.later a _ _ _ _ (give R (Value 0) a _ l n)
  built_in_go (AddVectored handler) vs context = λ a st l n. give R (Value _) a _ l n
  built_in_go (RemoveVectored handler) vs context = λ a st l n. give R (Value _) a _ l n

  node_go : (n : Node) (context : Context) → Go R (node program f n context)
      (node program g n context)
  node_go (nodes.Constant z n) context = give R (Value n)
  node_go (nodes.StackedArray base offset) context = λ a st l n. give R (Value _) a st l n
  node_go (nodes.Read p) context =
      λ a st l n. value_go R _ _ (λ v. read_go p v context) a _ _ _ (locate_go p context a st l n)
  node_go (nodes.AddressOf p) context = alike (Locate p) context
  node_go (nodes.Assign p e) context = λ a st l n.
      value_go R _ _ (λ x a st l n. value_go R _ _ (λ v. write_go p x v context) a _ _ _
      (alike (Eval e) context a st l n)) a _ _ _ (alike (Locate p) context a st l n)
  node_go (nodes.CompoundAssign p before o e after) context = λ a st l n.
      value_go R _ _ (λ x a st l n.
      value_go R _ _ (λ y a st l n.
      value_go R _ _ (λ z a st l n.
      value_go R _ _ (λ w. write_go p x _ context) a _ _ _ (operate_go o _ z context a st l n)) a _
      _ _ (alike (Eval e) context a st l n)) a _ _ _ (read_go p x context a st l n)) a _ _ _
      (alike (Locate p) context a st l n)
  node_go (nodes.Increment m p before o d after) context = λ a st l n.
      value_go R _ _ (λ x a st l n.
      value_go R _ _ (λ y a st l n.
      value_go R _ _ (λ z a st l n.
      value_go R _ _ (λ w. give R (Value _)) a _ _ _ (write_go p x _ context a st l n)) a _ _ _
      (operate_go o _ d context a st l n)) a _ _ _ (read_go p x context a st l n)) a _ _ _
      (alike (Locate p) context a st l n)
  node_go (nodes.Unary o e) context =
      λ a st l n. value_go R _ _ (λ v. give R (Value _)) a _ _ _ (alike (Eval e) context a st l n)
  node_go (nodes.Binary o e e') context = λ a st l n.
      value_go R _ _ (λ x a st l n. value_go R _ _ (λ y. operate_go o x y context) a _ _ _
      (alike (Eval e') context a st l n)) a _ _ _ (alike (Eval e) context a st l n)
  node_go (nodes.PointerDifference size e e') context = λ a st l n.
      value_go R _ _ (λ x a st l n. value_go R _ _ (λ y. give R (Value _)) a _ _ _
      (alike (Eval e') context a st l n)) a _ _ _ (alike (Eval e) context a st l n)
  node_go (nodes.Not e) context =
      λ a st l n. value_go R _ _ (λ v. give R (Value _)) a _ _ _ (alike (Eval e) context a st l n)
  node_go (nodes.And e e') context = λ a st l n.
      value_go R _ _ (λ x. choice_go R (nat_eq x 0) _ _ _ _ (give R (Value 0))
      (λ a st l n. value_go R _ _ (λ y. give R (Value _)) a _ _ _
      (alike (Eval e') context a st l n))) a _ _ _ (alike (Eval e) context a st l n)
  node_go (nodes.Or e e') context = λ a st l n.
      value_go R _ _ (λ x. choice_go R (nat_eq x 0) _ _ _ _
      (λ a st l n. value_go R _ _ (λ y. give R (Value _)) a _ _ _
      (alike (Eval e') context a st l n)) (give R (Value 1))) a _ _ _
      (alike (Eval e) context a st l n)
  node_go (nodes.Conditional c e e') context = λ a st l n.
      value_go R _ _ (λ x. choice_go R (nat_eq x 0) _ _ _ _ (alike (Eval e') context)
      (alike (Eval e) context)) a _ _ _ (alike (Eval c) context a st l n)
  node_go (nodes.Comma e e') context =
      λ a st l n. value_go R _ _ (λ x. alike (Eval e') context) a _ _ _
      (alike (Eval e) context a st l n)
  node_go (nodes.Call fn es) context =
      each_go es context _ _ (λ vs. enter_go fn (slice_get program.functions fn) vs context)
  node_go (nodes.CallBuiltIn k es) context = each_go es context _ _ (λ vs. built_in_go k vs context)
  node_go nodes.ExceptionCode context = give R (Value _)
  node_go (nodes.Information field) context = give R (Value _)
  node_go nodes.AbnormalTermination context = give R (Value _)

  expression_go : (e : Expression) (context : Context)
      → Go R (expression program f e context) (expression program g e context)
  expression_go (On n c) context =
      λ a st l m. value_go R _ _ (λ v. give R (Value _)) a _ _ _ (node_go n context a st l m)

  -- ---- statements

  optional_go : (d : ℕ) (e : Option Expression) (context : Context) (k k' : ℕ → State → Outcome)
      → GoWith R ℕ k k' → Go R (λ st. optional f d e context st k)
      (λ st. optional g d e context st k')
  optional_go d None context k k' h = h d
  optional_go d (Some e) context k k' h =
      λ a st l n. value_go R k k' h a _ _ _ (alike (Eval e) context a st l n)

  stacked_go : (v : StackedVariable) (n : Option ℕ) (e : Option Expression) (context : Context)
      → Go R (declare_stacked program f v n e context) (declare_stacked program g v n e context)
  stacked_go v (Some n) e context = clear_go v context.activation n _ _ (give R Normal)
  stacked_go v None None context = put_go v context.activation 0 _ _ (give R Normal)
  stacked_go v None (Some e) context =
      put_go v context.activation 0 _ _ (λ a st l n.
      value_go R _ _ (λ x. put_go v context.activation x _ _ (give R Normal)) a _ _ _
      (alike (Eval e) context a st l n))

  declare_at_go : (v : Option StackedVariable) (x : ℕ) (e : Option Expression) (context : Context)
      → Go R (declare_at program f v x e context) (declare_at program g v x e context)
  declare_at_go None x e context =
      λ a st l n. optional_go 0 e context _ _ (λ v a st l n. give R Normal a _ l n) a _ l n
  declare_at_go (Some v) x e context = stacked_go v v.elements e context

  declare_go : (d : Declared) (context : Context)
      → Go R (declare program f d context) (declare program g d context)
  declare_go d context = declare_at_go d.stacked d.local d.value context

  declare_each_go : (ds : List Declared) (context : Context)
      → Go R (declare_each f ds context) (declare_each g ds context)
  declare_each_go [] context = give R Normal
  declare_each_go (d ∷ ds) context =
      λ a st l n. then_go R _ _ (declare_each_go ds context) a _ _ _
      (alike (Run (Declare d)) context a st l n)

  statement_go : (s : Statement) (context : Context)
      → Go R (statement program f s context) (statement program g s context)
  statement_go (Declare d) context = declare_go d context
  statement_go (Block ss) context = all_go ss context
  statement_go (Evaluate e) context = optional_go 0 e context _ _ (λ v. give R Normal)
  statement_go (If c s) context =
      λ a st l n. value_go R _ _ (λ v. choice_go R (nat_eq v 0) _ _ _ _ (give R Normal)
      (alike (Run s) context)) a _ _ _ (alike (Eval c) context a st l n)
  statement_go (IfElse c s t) context = λ a st l n.
      value_go R _ _ (λ v. choice_go R (nat_eq v 0) _ _ _ _ (alike (Run t) context)
      (alike (Run s) context)) a _ _ _ (alike (Eval c) context a st l n)
  statement_go (For ds first c next s) context = λ a st l n.
      then_go R _ _ (optional_go 0 first context _ _ (λ v. alike (ForIteration c next s) context)) a
      _ _ _ (declare_each_go ds context a st l n)
  statement_go (DoWhile s c) context = alike (DoIteration s c) context
  statement_go (Return e) context = optional_go 0 e context _ _ (λ v. give R (Returned v))
  statement_go Break context = give R Broke
  statement_go Continue context = give R Continued
  statement_go Leave context = give R LeftTry
  statement_go (TryExcept body filter block) context = λ a st l n.
      landing_go R _ _ _ _ (λ exc a st l n. all_go block _ a _ l n) a _ _ _
      (alike (TryBody body) _ a st l n)
  statement_go (TryFinally body k last) context = λ a st l n.
      finally_go R _ _ (λ flag. alike (RunFinally k last flag) context) a _ _ _
      (alike (TryBody body) context a st l n)

  for_iteration_go : (c next : Option Expression) (s : Statement) (context : Context)
      → Go R (for_iteration f c next s context) (for_iteration g c next s context)
  for_iteration_go c next s context =
      optional_go 1 c context _ _ (λ v. choice_go R (nat_eq v 0) _ _ _ _ (give R Normal)
      (λ a st l n. loop_go R _ _ (optional_go 0 next context _ _
      (λ w. alike (ForIteration c next s) context)) a _ _ _ (alike (Run s) context a st l n)))

  do_go : (s : Statement) (c : Expression) (context : Context)
      → Go R (do_iteration f s c context) (do_iteration g s c context)
  do_go s c context = λ a st l n.
      loop_go R _ _ (λ a st l n. value_go R _ _
      (λ v. choice_go R (nat_eq v 0) _ _ _ _ (give R Normal) (alike (DoIteration s c) context)) a _
      _ _ (alike (Eval c) context a st l n))
      a _ _ _ (alike (Run s) context a st l n)

  -- ---- raises

  continued_go : (exc : Exception) (context : Context)
      → Go R (continued f exc context) (continued g exc context)
  continued_go exc context =
      choice_go R exc.flag _ _ _ _ (alike (Raise noncontinuable) context) (give R Normal)

  answered_go : (v level : ℕ) (exc : Exception) (context : Context) (k k' : State → Outcome)
      → Go R k k' → Go R (λ st. answered f v level exc context st k)
      (λ st. answered g v level exc context st k')
  answered_go v level exc context k k' h =
      choice_go R _ _ _ _ _ h (choice_go R _ _ _ _ _ (give R (Target level exc))
      (continued_go exc context))

  by_go : (filter : Filter) (h : Handler) (level : ℕ) (exc : Exception) (context : Context)
      (k k' : State → Outcome) → Go R k k' → Go R
      (λ st. search_by f filter h level exc context st k)
      (λ st. search_by g filter h level exc context st k')
  by_go Always h level exc context k k' next = give R (Target level exc)
  by_go (Funclet number e) h level exc context k k' next = λ a st l n.
      value_go R _ _ (λ v. answered_go v level exc context k k' next) a _ _ _
      (alike (RunFilter number e h exc) context a st l n)

  search_go : (hs : List Handler) (exc : Exception) (context : Context)
      → Go R (search f hs exc context) (search g hs exc context)
  search_go [] exc context = give R (End (Some (Unhandled _)))
  search_go (h ∷ outer) exc context =
      by_go h.filter h (length outer) exc context _ _ (search_go outer exc context)

  ask_at_go : (h : Option ℕ) (place : ℕ) (exc : Exception) (context : Context)
      → Go R (ask_at f h place exc context) (ask_at g h place exc context)
  ask_at_go None place exc context = search_go context.handlers exc context
  ask_at_go (Some handler) place exc context = alike (AskVectored handler place exc) context

  ask_go : (place : ℕ) (exc : Exception) (context : Context)
      → Go R (ask_from f place exc context) (ask_from g place exc context)
  ask_go place exc context a st l n =
      ask_at_go (slice_get st.vectored place) place exc context a st l n

  vectored_go : (v place : ℕ) (exc : Exception) (context : Context)
      → Go R (vectored_answered f v place exc context) (vectored_answered g v place exc context)
  vectored_go v place exc context =
      choice_go R _ _ _ _ _ (ask_go (place + 1) exc context) (continued_go exc context)

  ask_vectored_go : (handler place : ℕ) (exc : Exception) (context : Context)
      → Go R (ask_vectored program f handler place exc context)
      (ask_vectored program g handler place exc context)
  ask_vectored_go handler place exc context =
      deeper_go R 2 _ _ (λ a st l n. value_go R _ _
      (λ v a st l n. vectored_go v place exc context a _ l n) a _ _ _
      (enter_go handler (slice_get program.functions handler) (handler_arguments exc) context a _ l
      n))

  run_filter_go : (k : ℕ) (e : Expression) (h : Handler) (exc : Exception) (context : Context)
      → Go R (run_filter f k e h exc context) (run_filter g k e h exc context)
  run_filter_go k e h exc context =
      deeper_go R 2 _ _ (λ a st l n. value_go R _ _
      (λ v a st l n. R.later a _ _ _ _ (give R (Value v) a _ l n)) a _ _ _
      (R.later a _ _ _ _ (alike (Eval e) _ a _ l n)))

  run_finally_go : (k : ℕ) (last : Statements) (flag : Bool) (context : Context)
      → Go R (run_finally f k last flag context) (run_finally g k last flag context)
  run_finally_go k last flag context =
      deeper_go R 2 _ _ (λ a st l n. then_go R _ _ (λ a st l n. give R Normal a _ l n) a _ _ _
      (R.later a _ _ _ _ (all_go last _ a _ l n)))

  pub perform_go : Related R (perform program f) (perform program g)
  perform_go (Eval e) context = expression_go e context
  perform_go (Locate p) context = locate_go p context
  perform_go (Run s) context = statement_go s context
  perform_go (ForIteration c next s) context = for_iteration_go c next s context
  perform_go (DoIteration s c) context = do_go s c context
  perform_go (TryBody ss) context = all_go ss context
  perform_go (Raise exc) context =
      λ a st l n. R.later a _ _ _ _ (ask_go 0 exc context a _ l n)
  perform_go (AskVectored handler place exc) context = ask_vectored_go handler place exc context
  perform_go (RunFilter k e h exc) context = run_filter_go k e h exc context
  perform_go (RunFinally k last flag) context = run_finally_go k last flag context
  perform_go (Retry o x y) context = operate_go o x y context
