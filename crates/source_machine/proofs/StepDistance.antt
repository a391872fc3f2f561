-- Each step brings the machine nearer to its end.
use Rattle.std.proofs.Common.{◌≡◌, ℕ, zero, suc, ◌+◌, ◌*◌, ◌<◌, List, [], ◌∷◌, length, refl, arith}
use Rattle.std.proofs.Common.{lit<, Option, Some, None, ◌≤◌, subst, sym, inl, inr}
use Rattle.std.specs.Prelude.{Bool, true, false, ◌⊎◌, nat_eq, nat_lt, slice_get, ◌^◌}
use Rattle.std.proofs.lemmas.Bool.{cases_Bool, ltb-false}
use Rattle.source_machine.specs.Words.{Memory, State, DataFrame, DataPart, StackedParameter, StackedVariable, W32, low, BuiltIn, Put, Protect, RaiseException, Walk, AddVectored, RemoveVectored, Operation, Program, Function, weight, surplus, performed, Expression, On, Node, Lvalue, Local, Arguments, Done, Filter, Always, Funclet, Statement, Statements, Empty, Declared, is_reserved, Exception, Result, Value, Normal, Continued, LeftTry, Target, End, Handler, Task, Place, Callee, OperandFrame, AssignmentFrame, StatementFrame, SequelFrame, BodyFrame, ContinuationFrame, Operand, Assignment, InStatement, Sequel, Body, EndsCall, Lands, Finishes, Next, Over, Give, Start, Begin, Plan, Then, Push, chosen, node_plan, expression_plan, find_plan, pass_plan, operand_plan, assignment_plan, evaluated, branch, answer_plan, vectored_plan, in_statement_plan, sequel_plan, body_plan, proceed_plan, declare_plan, statement_plan, Machine, follow, unless_deep, unless_few, started, begun, fetched, put, operated, entered, built_in, called, asked_vectored, asked_by, asked, searched, ends, at_state, set_memory, let_go, allocate, local_of, placing, clearing, with_next, count_steps, stored, brought, opened, put_stacked, cleared_one, cleared, declared_stacked, declared_at, target_landed, landed, finished, left_call, after_value, after_normal, after_body, resumed, given, outside, done, is_deep, with_local, is_over, operand_worth, assignment_worth, statement_worth, worth, all_worth, next_worth, distance, Decreases}
use Rattle.c_operations.specs.Performed as performing
use Rattle.c_checked.specs.Expression as nodes
use Rattle.c_checked.specs.Expression.{Next as Another}
use Rattle.c_checked.specs.Statement as statements
use Rattle.c_checked.specs.Statement.{Then as Followed}
use Rattle.source_meaning.specs.Tasks as tasks
use Rattle.source_machine.specs.Frames as frames

plan_worth : Plan → ℕ
plan_worth (Then next) = next_worth next
plan_worth (Push f next) = worth f + next_worth next

-- the distance of a machine that does next what is worth so much
abbrev at_worth : Machine → ℕ → ℕ
at_worth m b = 64 * m.state.steps_left + all_worth m.stack + b

followed : (m : Machine) (plan : Plan) (b : ℕ) → plan_worth plan < b
    → distance (follow m plan) < at_worth m b
unfolding plan_worth
followed m (Then next) b lt = omega arith
followed m (Push f next) b lt = omega arith

deeper : (c : Bool) (m other : Machine) (b : ℕ) → 0 < b → distance other < at_worth m b
    → distance (unless_deep c m other) < at_worth m b
deeper true m other b lt le = omega arith
deeper false m other b lt le = le

fewer : (c : Bool) (m other : Machine) (b : ℕ) → 0 < b → distance other < at_worth m b
    → distance (unless_few c m other) < at_worth m b
fewer true m other b lt le = omega arith
fewer false m other b lt le = le

-- ---- plans

chosen_worth : (c : Bool) (one other : Plan) (b : ℕ) → plan_worth one < b → plan_worth other < b
    → plan_worth (chosen c one other) < b
chosen_worth true one other b p q = p
chosen_worth false one other b p q = q

evaluated_worth : (f : StatementFrame) (e : Option Expression) (p : Place) (plan : Plan) (b : ℕ)
    → plan_worth plan < b → statement_worth f + 1 < b → plan_worth (evaluated f e p plan) < b
unfolding plan_worth
evaluated_worth f None p plan b lt le = lt
evaluated_worth f (Some e) p plan b lt le = le

node_worth : (n : Node) (p : Place) → plan_worth (node_plan n p) < 30
unfolding plan_worth
node_worth (nodes.Constant z n) p = lit< tt
node_worth x p = lit< tt

find_worth : (l : Lvalue) (p : Place) → plan_worth (find_plan l p) < 22
unfolding plan_worth
find_worth (Local x) p = lit< tt
find_worth y p = lit< tt

pass_worth : (callee : Callee) (vs : List ℕ) (es : Arguments) (p : Place)
    → plan_worth (pass_plan callee vs es p) < 24
unfolding plan_worth
pass_worth callee vs Done p = lit< tt
pass_worth callee vs (Another e es) p = lit< tt

proceed_worth : (ss : Statements) (p : Place) → plan_worth (proceed_plan ss p) < 21
unfolding plan_worth
proceed_worth Empty p = lit< tt
proceed_worth (Followed s ss) p = lit< tt

declare_worth : (ds : List Declared) (p : Place) → plan_worth (declare_plan ds p) < 21
unfolding plan_worth
declare_worth [] p = lit< tt
declare_worth (d ∷ ds) p = lit< tt

statement_plan_worth : (s : Statement) (p : Place) → plan_worth (statement_plan s p) < 40
unfolding plan_worth
statement_plan_worth (statements.Declare e) p = lit< tt
statement_plan_worth (statements.Block ss) p = lit< tt
statement_plan_worth (statements.Evaluate e) p =
    evaluated_worth frames.EndsEvaluation e p _ 40 (lit< tt) (lit< tt)
statement_plan_worth (statements.If c s) p = lit< tt
statement_plan_worth (statements.Return e) p =
    evaluated_worth frames.Returns e p _ 40 (lit< tt) (lit< tt)
statement_plan_worth statements.Break p = lit< tt
statement_plan_worth x p = lit< tt

expression_worth : (e : Expression) (p : Place) → plan_worth (expression_plan e p) < 40
unfolding plan_worth
expression_worth (On n c) p = lit< tt

-- ---- what frames do with a value

operand_plan_worth : (f : OperandFrame) (v : ℕ)
    → plan_worth (operand_plan f v) < operand_worth f + 20
unfolding plan_worth
operand_plan_worth (frames.Converts c) v = lit< tt
operand_plan_worth (frames.EvaluatesIfTrue f p) v =
    chosen_worth (nat_eq v 0) _ _ 22 (lit< tt) (lit< tt)
operand_plan_worth (frames.EvaluatesIfFalse f p) v =
    chosen_worth (nat_eq v 0) _ _ 22 (lit< tt) (lit< tt)
operand_plan_worth frames.Tests v = lit< tt
operand_plan_worth (frames.Chooses e f p) v = chosen_worth (nat_eq v 0) _ _ 21 (lit< tt) (lit< tt)
operand_plan_worth (frames.Discards f p) v = lit< tt
operand_plan_worth (frames.PassesArgument callee vs es p) v = lit< tt
operand_plan_worth x v = lit< tt

assignment_plan_worth : (f : AssignmentFrame) (v : ℕ)
    → plan_worth (assignment_plan f v) < assignment_worth f + 20
unfolding plan_worth
assignment_plan_worth (frames.ReadsPlace l p) v = lit< tt
assignment_plan_worth x v = lit< tt

branch_worth : (c : Bool) (s : Statement) (t : Option Statement) (p : Place)
    → plan_worth (branch c s t p) < 22
unfolding plan_worth
branch_worth true s None p = lit< tt
branch_worth true s (Some t) p = lit< tt
branch_worth false s t p = lit< tt

answer_worth : (a b c : Bool) (level : ℕ) (exc : Exception) (p : Place)
    → plan_worth (answer_plan a b c level exc p) < 25
unfolding plan_worth
answer_worth true b c level exc p = lit< tt
answer_worth false true c level exc p = lit< tt
answer_worth false false true level exc p = lit< tt
answer_worth false false false level exc p = lit< tt

vectored_worth : (a b : Bool) (place : ℕ) (exc : Exception) (p : Place)
    → plan_worth (vectored_plan a b place exc p) < 23
unfolding plan_worth
vectored_worth true b place exc p = lit< tt
vectored_worth false true place exc p = lit< tt
vectored_worth false false place exc p = lit< tt

in_statement_worth : (f : StatementFrame) (v : ℕ)
    → plan_worth (in_statement_plan f v) < statement_worth f + 20
unfolding plan_worth
in_statement_worth (frames.Initialises x p) v = lit< tt
in_statement_worth (frames.InitialisesStacked x p) v = lit< tt
in_statement_worth frames.EndsEvaluation v = lit< tt
in_statement_worth (frames.Branches s t p) v = branch_worth (nat_eq v 0) s t p
in_statement_worth (frames.Iterates k p) v = lit< tt
in_statement_worth (frames.TestsFor k p) v = chosen_worth (nat_eq v 0) _ _ 22 (lit< tt) (lit< tt)
in_statement_worth (frames.TestsDo s c p) v = chosen_worth (nat_eq v 0) _ _ 22 (lit< tt) (lit< tt)
in_statement_worth frames.Returns v = lit< tt
in_statement_worth frames.EndsFilter v = lit< tt
in_statement_worth (frames.IsAnswered level exc p) v =
    answer_worth (nat_eq (low W32 v) 0) (nat_lt (low W32 v) (2 ^ 31)) exc.flag level exc p
in_statement_worth (frames.EndsVectored place exc p) v = lit< tt

sequel_plan_worth : (f : SequelFrame) → plan_worth (sequel_plan f) < 22
unfolding plan_worth
sequel_plan_worth (frames.Continues ss p) = lit< tt
sequel_plan_worth (frames.DeclaresRest ds p) = lit< tt
sequel_plan_worth (frames.EvaluatesFirst first k p) =
    evaluated_worth (frames.Iterates k p) first p _ 22 (lit< tt) (lit< tt)
sequel_plan_worth (frames.Retries o a b p) = lit< tt
sequel_plan_worth x = lit< tt

body_plan_worth : (f : BodyFrame) → plan_worth (body_plan f) < 23
unfolding plan_worth
body_plan_worth (frames.EndsForBody k p) =
    evaluated_worth (frames.Iterates k p) k.next p _ 23 (lit< tt) (lit< tt)
body_plan_worth (frames.EndsDoBody s c p) = lit< tt

-- ---- results

value_decreases : (m : Machine) (plan : ℕ → Plan) (b : ℕ) → 20 < b
    → ((v : ℕ) → plan_worth (plan v) < b) → (how : Result)
    → distance (after_value m plan how) < at_worth m b
value_decreases m plan b lt h (Value v) = followed m (plan v) b (h v)
value_decreases m plan b lt h how = omega arith

normal_decreases : (m : Machine) (plan : Plan) → plan_worth plan < 22 → (how : Result)
    → distance (after_normal m plan how) < at_worth m 22
normal_decreases m plan h Normal = followed m plan 22 h
normal_decreases m plan h how = omega arith

body_decreases : (m : Machine) (plan : Plan) → plan_worth plan < 23 → (how : Result)
    → distance (after_body m plan how) < at_worth m 23
body_decreases m plan h Normal = followed m plan 23 h
body_decreases m plan h Continued = followed m plan 23 h
body_decreases m plan h how = omega arith

call_decreases : (m : Machine) (n s : ℕ) (part : Option DataPart) (how : Result)
    → distance (left_call m n s part how) < at_worth m 21
call_decreases m n s part (End e) = omega arith
call_decreases m n s part x = omega arith

target_decreases : (c : Bool) (m : Machine) (held : ℕ) (block : Statements) (p : Place) (to : ℕ)
    (exc : Exception) → distance (target_landed m c held block p to exc) < at_worth m 22
target_decreases true m held block p to exc = omega arith
target_decreases false m held block p to exc = omega arith

land_decreases : (m : Machine) (held : ℕ) (block : Statements) (p : Place) (how : Result)
    → distance (landed m held block p how) < at_worth m 22
land_decreases m held block p LeftTry = omega arith
land_decreases m held block p (Target to exc) =
    target_decreases (nat_eq to (length m.handlers)) m held block p to exc
land_decreases m held block p how = omega arith

finish_decreases : (m : Machine) (k : ℕ) (last : Statements) (p : Place) (how : Result)
    → distance (finished m k last p how) < at_worth m 21
unfolding plan_worth
finish_decreases m k last p (End e) = omega arith
finish_decreases m k last p x = omega arith

resumed_decreases : (m : Machine) (f : ContinuationFrame) (how : Result)
    → distance (resumed m f how) < at_worth m (worth f + 20)
resumed_decreases m (Operand f) how =
    value_decreases m (operand_plan f) (operand_worth f + 20) (operand_more f)
    (operand_plan_worth f) how
  where
    operand_more : (f : OperandFrame) → 20 < operand_worth f + 20
    operand_more (frames.PassesArgument callee vs es p) = lit< tt
    operand_more x = lit< tt
resumed_decreases m (Assignment f) how =
    value_decreases m (assignment_plan f) (assignment_worth f + 20) (assignment_more f)
    (assignment_plan_worth f) how
  where
    assignment_more : (f : AssignmentFrame) → 20 < assignment_worth f + 20
    assignment_more (frames.ReadsPlace l p) = lit< tt
    assignment_more x = lit< tt
resumed_decreases m (InStatement f) how =
    value_decreases m (in_statement_plan f) (statement_worth f + 20) (statement_more f)
    (in_statement_worth f) how
  where
    statement_more : (f : StatementFrame) → 20 < statement_worth f + 20
    statement_more (frames.IsAnswered level exc p) = lit< tt
    statement_more (frames.EndsVectored place exc p) = lit< tt
    statement_more f = lit< tt
resumed_decreases m (Sequel f) how = normal_decreases m (sequel_plan f) (sequel_plan_worth f) how
resumed_decreases m (Body f) how = body_decreases m (body_plan f) (body_plan_worth f) how
resumed_decreases m (EndsCall n s part) how = call_decreases m n s part how
resumed_decreases m (Lands held block p) how = land_decreases m held block p how
resumed_decreases m (Finishes k last p) how = finish_decreases m k last p how

given_decreases : (m : Machine) (how : Result) (fs : List ContinuationFrame)
    → distance (given m how fs) < 64 * m.state.steps_left + all_worth fs + 20
given_decreases m how [] = omega arith
given_decreases m how (f ∷ fs) =
    let less = resumed_decreases (record m { handlers = outside f m.handlers; stack = fs }) f how in
    omega arith

-- ---- tasks and steps

started_decreases : (m : Machine) (task : Task) (p : Place) (n : ℕ) → m.state.steps_left ≡ n
    → distance (started m task p n) < at_worth m 1
started_decreases m task p zero e = omega arith
started_decreases m task p (suc n) e = omega arith

begun_decreases : (m : Machine) (task : Task) (p : Place)
    → distance (begun m task p) < at_worth m 40
unfolding plan_worth
begun_decreases m (tasks.Eval e) p = followed m _ 40 (expression_worth e p)
begun_decreases m (tasks.Locate l) p = omega arith
begun_decreases m (tasks.Run s) p = followed m _ 40 (statement_plan_worth s p)
begun_decreases m (tasks.ForIteration c next s) p =
    followed m _ 40 (evaluated_worth (frames.TestsFor _ p) c p _ 40 (lit< tt) (lit< tt))
begun_decreases m (tasks.DoIteration s c) p = omega arith
begun_decreases m (tasks.TryBody ss) p = omega arith
begun_decreases m (tasks.Raise exc) p = omega arith
begun_decreases m (tasks.AskVectored f place exc) p =
    deeper (is_deep m.state 2) m _ 40 (lit< tt) (omega arith)
begun_decreases m (tasks.RunFilter k e h exc) p =
    deeper (is_deep m.state 2) m _ 40 (lit< tt) (omega arith)
begun_decreases m (tasks.RunFinally k last flag) p =
    deeper (is_deep m.state 2) m _ 40 (lit< tt) (omega arith)
begun_decreases m (tasks.Retry o a b) p = omega arith

fetched_decreases : (m : Machine) (l : Lvalue) (a : ℕ) (p : Place)
    → distance (fetched m l a p) < at_worth m 23
unfolding plan_worth
fetched_decreases m (Local x) a p = omega arith
fetched_decreases m y a p = omega arith

put_decreases : (m : Machine) (l : Lvalue) (a v : ℕ) (p : Place)
    → distance (put m l a v p) < at_worth m 22
unfolding plan_worth
put_decreases m (Local x) a v p = omega arith
put_decreases m y a v p = omega arith

operated_decreases : (m : Machine) (o : Operation) (a b : ℕ) (p : Place)
    (x : performing.OperationResult)
    → distance (operated m o a b p x) < at_worth m 21
unfolding plan_worth
operated_decreases m o a b p (performing.Gives v memory) = omega arith
operated_decreases m o a b p (performing.Raises code access) = omega arith
operated_decreases m o a b p (performing.Undefined a') = omega arith

-- ---- the data stack

stored_decreases : (m : Machine) (x : performing.OperationResult) (go : Machine → Machine) (b : ℕ)
    → 0 < b
    → ((memory : Memory) → distance (go (at_state m (set_memory m.state memory))) < at_worth m b)
    → distance (stored m x go) < at_worth m b
stored_decreases m (performing.Gives v memory) go b lt h = h memory
stored_decreases m (performing.Raises code access) go b lt h = omega arith
stored_decreases m (performing.Undefined a) go b lt h = omega arith

brought_decreases : (program : Program) (base : ℕ) (ps : List StackedParameter) (k : ℕ)
    (plan : Plan) (m : Machine) (b : ℕ) → plan_worth plan < b
    → distance (brought program base ps k plan m) < at_worth m b
brought_decreases program base [] k plan m b lt = followed m plan b lt
brought_decreases program base (p ∷ ps) k plan m b lt =
    stored_decreases m
    (placing program base p.width p.offset k (local_of m.state k p.parameter) m.state)
    (brought program base ps k plan) b (omega (arith, lt))
    (λ memory. brought_decreases program base ps k plan (at_state m (set_memory m.state memory)) b
    lt)

opened_decreases : (program : Program) (d : Option DataFrame) (k : ℕ) (plan : Plan) (m : Machine)
    (b : ℕ) → plan_worth plan < b → distance (opened program d k plan m) < at_worth m b
opened_decreases program None k plan m b lt = followed m plan b lt
opened_decreases program (Some d) k plan m b lt =
    brought_decreases program d.base d.parameters k plan
    (at_state m (allocate d.base d.size k m.state)) b lt

opened_after : (program : Program) (d : Option DataFrame) (k : ℕ) (plan : Plan) (m : Machine)
    (st : State) (b : ℕ) → plan_worth plan < b → st.steps_left ≤ m.state.steps_left
    → distance (opened program d k plan (at_state m st)) < at_worth m b
opened_after program d k plan m st b lt le =
    let less : distance (opened program d k plan (at_state m st)) < at_worth (at_state m st) b =
    opened_decreases program d k plan (at_state m st) b lt in
    omega (arith, less, le)

put_stacked_decreases : (program : Program) (v : StackedVariable) (x : ℕ) (p : Place) (plan : Plan)
    (m : Machine) (b : ℕ) → plan_worth plan < b
    → distance (put_stacked program v x p plan m) < at_worth m b
put_stacked_decreases program v x p plan m b lt =
    stored_decreases m (placing program v.base v.width v.offset p.activation x m.state)
    (λ m. follow m plan) b (omega (arith, lt))
    (λ memory. followed (at_state m (set_memory m.state memory)) plan b lt)

cleared_decreases : (program : Program) (v : StackedVariable) (n : ℕ) (p : Place) (m : Machine)
    → distance (cleared program v n p m) < at_worth m 21
unfolding plan_worth
cleared_decreases program v zero p m = followed m ends 21 (lit< tt)
cleared_decreases program v (suc n) p m = by_test (cases_Bool (nat_lt m.state.steps_left 1))
  where
    fewer : Machine
    fewer = at_state m (count_steps 1 m.state)

    by_test : (nat_lt m.state.steps_left 1 ≡ true) ⊎ (nat_lt m.state.steps_left 1 ≡ false)
        → distance (cleared program v (suc n) p m) < at_worth m 21
    by_test (inl e) =
        subst (λ c. distance (unless_few c m (cleared_one program v n p fewer)) < at_worth m 21)
        (sym e) (omega arith)
    by_test (inr e) =
        let enough : 1 ≤ m.state.steps_left = ltb-false m.state.steps_left 1 e in
        let one : distance (cleared_one program v n p fewer) < at_worth fewer 22 =
        stored_decreases fewer (clearing program v p.activation (suc n) fewer.state)
        (λ m. with_next m (frames.ClearElements v n p)) 22 (lit< tt) (λ memory. omega arith) in
        subst (λ c. distance (unless_few c m (cleared_one program v n p fewer)) < at_worth m 21)
        (sym e) (omega arith)

-- ---- calls

entered_decreases : (program : Program) (m : Machine) (number : ℕ) (f : Option Function)
    (vs : List ℕ) → distance (entered program m number f vs) < at_worth m 23
unfolding plan_worth
entered_decreases program m number None vs = omega arith
entered_decreases program m number (Some f) vs =
    deeper (is_deep m.state (weight f)) m _ 23 (lit< tt)
    (fewer (nat_lt m.state.steps_left (surplus f)) m _ 23 (lit< tt)
    (opened_after program f.data_frame (length m.state.frames) _ m _ 23 (lit< tt) (omega arith)))

built_in_decreases : (m : Machine) (k : BuiltIn) (vs : List ℕ) (p : Place)
    → distance (built_in m k vs p) < at_worth m 23
unfolding plan_worth
built_in_decreases m Put vs p = omega arith
built_in_decreases m Protect vs p = omega arith
built_in_decreases m RaiseException vs p = omega arith
built_in_decreases m Walk vs p = omega arith
built_in_decreases m (AddVectored f) vs p = omega arith
built_in_decreases m (RemoveVectored f) vs p = omega arith

called_decreases : (program : Program) (m : Machine) (callee : Callee) (vs : List ℕ) (p : Place)
    → distance (called program m callee vs p) < at_worth m 23
called_decreases program m (frames.Defined f) vs p =
    entered_decreases program m f (slice_get program.functions f) vs
called_decreases program m (frames.BuiltInOf k) vs p = built_in_decreases m k vs p

declared_stacked_decreases : (program : Program) (m : Machine) (v : StackedVariable)
    (n : Option ℕ) (e : Option Expression) (p : Place)
    → distance (declared_stacked program m v n e p) < at_worth m 22
unfolding plan_worth
declared_stacked_decreases program m v (Some n) e p = omega arith
declared_stacked_decreases program m v None e p =
    put_stacked_decreases program v 0 p _ m 22
    (evaluated_worth (frames.InitialisesStacked v p) e p ends 22 (lit< tt) (lit< tt))

declared_at_decreases : (program : Program) (m : Machine) (v : Option StackedVariable) (x : ℕ)
    (e : Option Expression) (p : Place)
    → distance (declared_at program m v x e p) < at_worth m 22
unfolding plan_worth
declared_at_decreases program m None x e p =
    followed (with_local m p x 0) _ 22 (evaluated_worth (frames.Initialises x p) e p _ 22 (lit< tt)
    (lit< tt))
declared_at_decreases program m (Some v) x e p =
    declared_stacked_decreases program m v v.elements e p

asked_by_decreases : (m : Machine) (f : Filter) (h : Handler) (level : ℕ) (exc : Exception)
    (p : Place) → distance (asked_by m f h level exc p) < at_worth m 21
unfolding plan_worth
asked_by_decreases m Always h level exc p = omega arith
asked_by_decreases m (Funclet k e) h level exc p = omega arith

asked_decreases : (m : Machine) (o : Option Handler) (level : ℕ) (exc : Exception) (p : Place)
    → distance (asked m o level exc p) < at_worth m 21
asked_decreases m None level exc p = omega arith
asked_decreases m (Some h) level exc p = asked_by_decreases m h.filter h level exc p

searched_decreases : (m : Machine) (level : ℕ) (exc : Exception) (p : Place)
    → distance (searched m level exc p) < at_worth m 21
searched_decreases m zero exc p = omega arith
searched_decreases m (suc level) exc p = asked_decreases m (slice_get m.handlers level) level exc p

asked_vectored_decreases : (m : Machine) (f : Option ℕ) (place : ℕ) (exc : Exception) (p : Place)
    → distance (asked_vectored m f place exc p) < at_worth m 22
asked_vectored_decreases m None place exc p = omega arith
asked_vectored_decreases m (Some f) place exc p = omega arith

done_decreases : (program : Program) (m : Machine) (next : Next) → is_over next ≡ false
    → distance (done program m next) < at_worth m (next_worth next)
unfolding plan_worth
done_decreases program m (Over how) e = cc
done_decreases program m (Give how) e = given_decreases m how m.stack
done_decreases program m (Start task p) e = started_decreases m task p m.state.steps_left refl
done_decreases program m (Begin task p) e = begun_decreases m task p
done_decreases program m (frames.Evaluate n p) e = followed m _ 30 (node_worth n p)
done_decreases program m (frames.Find l p) e = followed m _ 22 (find_worth l p)
done_decreases program m (frames.Fetch l a p) e = fetched_decreases m l a p
done_decreases program m (frames.Put l a v p) e = put_decreases m l a v p
done_decreases program m (frames.Operate o a b p) e =
    operated_decreases m o a b p (performed (is_reserved program.globals) o a b m.state.memory)
done_decreases program m (frames.Pass callee vs es p) e =
    followed m _ 24 (pass_worth callee vs es p)
done_decreases program m (frames.Call callee vs p) e = called_decreases program m callee vs p
done_decreases program m (frames.Proceed ss p) e = followed m _ 21 (proceed_worth ss p)
done_decreases program m (frames.DeclareEach ds p) e = followed m _ 21 (declare_worth ds p)
done_decreases program m (frames.DeclareName d p) e =
    declared_at_decreases program m d.stacked d.local d.value p
done_decreases program m (frames.SetLocal x v p) e = omega arith
done_decreases program m (frames.PutStacked v x p) e =
    put_stacked_decreases program v x p ends m 21 (lit< tt)
done_decreases program m (frames.ClearElements v n p) e = cleared_decreases program v n p m
done_decreases program m (frames.AskFrom place exc p) e =
    asked_vectored_decreases m (slice_get m.state.vectored place) place exc p
done_decreases program m (frames.VectoredAnswer v place exc p) e =
    followed (at_state m (let_go m.state)) _ 23
    (vectored_worth (nat_lt (low W32 v) (2 ^ 31)) exc.flag place exc p)
done_decreases program m (frames.Search level exc p) e = searched_decreases m level exc p
done_decreases program m y e = omega arith

pub decreases : Decreases
decreases program m e = done_decreases program m m.next e
