-- Statements are resolved to such that weigh at most so much for each node, and functions to such
-- that weigh 1 more.
use Rattle.std.proofs.Common.{◌≡◌, ℕ, ◌+◌, ◌*◌, ◌≤◌, arith}
use Rattle.std.proofs.Math.Nat.{add-mul, mul-add, mul-one}
use Rattle.std.specs.Prelude.{Bool, true, false, if◌then◌else◌, List, [], ◌∷◌, ◌++◌, length, map, Option, Some, None}
use Rattle.c_operations.specs.declared.operation.Size.TheVariants as sizes
use Rattle.text_bounds.specs.Words.{Kept, Base, CType, start, ExternalDeclaration, Globals, Statement, Statements, ForInitialiser, Declaring, Evaluating, nodes_of, is_void, size_of, TypedNode, int, Names, FaultAt, resolve_expression, file_of, empty_file, with_parameters, around, function_of, functions_of, Scope, Near, Beyond, past_finally, with_number, Environment, Numbering, names_at, filter_names, inside, any, condition, to_type, to_answer, Value, Optional, without_initialiser, local_value, declare, declare_all, only, returned, always, ResolvedFilter, resolve_filter, names_only, resolve_for_initialiser, resolve_statement, resolve_statements, Weights, optional, NodesAdd, StatementsAdd, FunctionsAdd, layout_of, parameter_variable, nodes_of_optional, nodes_of_locals, nodes_of_for_initialiser, nodes_of_statement, nodes_of_statements, nodes_of_globals, nothing}
use Rattle.c_checked.specs.Expression as nodes
use Rattle.c_checked.specs.Program as checked_program
use Rattle.c_checked.specs.Statement as checked
use Rattle.c_syntax.specs.Expression as trees
use Rattle.c_syntax.specs.Expression.{Expression}
use Rattle.c_syntax.specs.Program.{Function}
use Rattle.c_syntax.specs.Statement as statements
use Rattle.c_syntax.specs.Statement.{Local}
use Rattle.c_syntax.specs.Nodes as counted
use Rattle.c_resolved.specs.Statements.{optional as optional_of}
use Rattle.text_bounds.specs.WeightLaws.{WeightIsBounded}
use Rattle.text_bounds.proofs.Times.{times_1, times_2, times_3, times_4, once}
use Rattle.text_bounds.proofs.OperatorWeights.{LightIf, typed_weight, kept_weight}
use Rattle.text_bounds.proofs.ExpressionWeights.{resolved_light}
use Rattle.text_bounds.proofs.LocalCounts.{few_locals}
use Rattle.text_bounds.proofs.PlacedWeights.{placed, nodes_placed, statements_placed}
use Rattle.c_syntax.specs.declared.declaration.Length.{Length}
use Rattle.c_syntax.specs.declared.declaration.Parameter.{Parameter}
use Rattle.std.proofs.lemmas.List.{length-map}

-- ---- nodes

some_nodes : (e : Expression) → 1 ≤ counted.nodes e
some_nodes (trees.Constant at l) = omega arith
some_nodes e = omega arith

some_statement : (s : Statement) → 1 ≤ nodes_of_statement s
some_statement (statements.Declare base ls) = omega arith
some_statement s = omega arith

-- ---- values

nothing_light : (w : Weights) → NodesAdd w → (n : ℕ) → w.each ≤ n → w.expression nothing ≤ n
nothing_light w adds n p = let h = adds.constant sizes.Int 0 in
    let e = adds.value (nodes.Constant sizes.Int 0) Kept in let c = adds.any_conversion Kept in
    omega arith

found_any : (w : Weights) → NodesAdd w → (n : ℕ) (o : Option TypedNode) (fs : List FaultAt)
    → LightIf w n o → w.each ≤ n → w.expression (any (record { found = o; faults = fs })).value ≤ n
found_any w adds n None fs h p = nothing_light w adds n p
found_any w adds n (Some t) fs h p = let k = kept_weight w adds t in omega arith

found_condition : (w : Weights) → NodesAdd w → (n at : ℕ) (o : Option TypedNode) (fs : List FaultAt)
    → LightIf w n o → w.each ≤ n → w.expression
    (condition at (record { found = o; faults = fs })).value ≤ n
found_condition w adds n at None fs h p = nothing_light w adds n p
found_condition w adds n at (Some t) fs h p = let k = kept_weight w adds t in omega arith

found_typed : (w : Weights) → NodesAdd w → (n : ℕ) (type : CType) (at : ℕ) (o : Option TypedNode)
    (fs : List FaultAt) → LightIf w n o → w.each ≤ n
    → w.expression (to_type type at (record { found = o; faults = fs })).value ≤ n
found_typed w adds n type at None fs h p = nothing_light w adds n p
found_typed w adds n type at (Some t) fs h p = let c = typed_weight w adds type t in omega arith

found_answer : (w : Weights) → NodesAdd w → (n at : ℕ) (o : Option TypedNode) (fs : List FaultAt)
    → LightIf w n o → w.each ≤ n → w.expression
    (to_answer at (record { found = o; faults = fs })).value ≤ n
found_answer w adds n at None fs h p = nothing_light w adds n p
found_answer w adds n at (Some t) fs h p = let c = typed_weight w adds int t in omega arith

any_light : (w : Weights) → NodesAdd w → (s : Names) (e : Expression)
    → w.expression (any (resolve_expression s e)).value ≤ w.each * counted.nodes e
any_light w adds s e = found_any w adds (w.each * counted.nodes e) (resolve_expression s e).found
    (resolve_expression s e).faults (resolved_light w adds s e)
    (once w.each (counted.nodes e) (some_nodes e))

condition_light : (w : Weights) → NodesAdd w → (s : Names) (at : ℕ) (e : Expression)
    → w.expression (condition at (resolve_expression s e)).value ≤ w.each * counted.nodes e
condition_light w adds s at e = found_condition w adds (w.each * counted.nodes e) at
    (resolve_expression s e).found (resolve_expression s e).faults (resolved_light w adds s e)
    (once w.each (counted.nodes e) (some_nodes e))

typed_light : (w : Weights) → NodesAdd w → (s : Names) (type : CType) (at : ℕ) (e : Expression)
    → w.expression (to_type type at (resolve_expression s e)).value ≤ w.each * counted.nodes e
typed_light w adds s type at e = found_typed w adds (w.each * counted.nodes e) type at
    (resolve_expression s e).found (resolve_expression s e).faults (resolved_light w adds s e)
    (once w.each (counted.nodes e) (some_nodes e))

answer_light : (w : Weights) → NodesAdd w → (s : Names) (at : ℕ) (e : Expression)
    → w.expression (to_answer at (resolve_expression s e)).value ≤ w.each * counted.nodes e
answer_light w adds s at e = found_answer w adds (w.each * counted.nodes e) at
    (resolve_expression s e).found (resolve_expression s e).faults (resolved_light w adds s e)
    (once w.each (counted.nodes e) (some_nodes e))

optional_light : (w : Weights) (f : Expression → Value)
    → ((e : Expression) → w.expression (f e).value ≤ w.each * counted.nodes e)
    → (o : Option Expression) → optional w (optional_of f o).value ≤ w.each * nodes_of_optional o
optional_light w f h None = omega arith
optional_light w f h (Some e) = h e

-- ---- lists of statements

abbrev all : Weights → List checked.Statement → ℕ
all w ss = w.statements (checked.statements ss)

all_append : (w : Weights) → StatementsAdd w → (ss ts : List checked.Statement)
    → all w (ss ++ ts) ≡ all w ss + all w ts
all_append w adds [] ts = let h = adds.no_statement in omega arith
all_append w adds (s ∷ ss) ts =
    let i = all_append w adds ss ts in
    let h = adds.sequence s (checked.statements ss) in
    let k = adds.sequence s (checked.statements (ss ++ ts)) in
    omega arith

alone : (w : Weights) → StatementsAdd w → (s : checked.Statement) (n : ℕ) → w.statement s ≤ n
    → all w (s ∷ []) ≤ n
alone w adds s n le = let h = adds.sequence s checked.Empty in let k = adds.no_statement in
    omega arith

only_light : (w : Weights) → StatementsAdd w → (ss : List checked.Statement) (n : ℕ) → all w ss ≤ n
    → w.each ≤ n → w.statement (only ss) ≤ n
only_light w adds [] n h p = let k = adds.evaluation None in omega arith
only_light w adds (s ∷ ss) n h p = let k = adds.sequence s (checked.statements ss) in omega arith

part_light : (w : Weights) → StatementsAdd w → (s : Statement) (ss : List checked.Statement)
    → all w ss ≤ w.each * nodes_of_statement s
    → w.statement (only ss) ≤ w.each * nodes_of_statement s
part_light w adds s ss h = only_light w adds ss (w.each * nodes_of_statement s) h
    (once w.each (nodes_of_statement s) (some_statement s))

-- ---- declarations

declared_light : (w : Weights) → StatementsAdd w
    → (d : checked.Declared) (ss : List checked.Statement) (m n : ℕ)
    → optional w d.value ≤ w.each * m → all w ss ≤ w.each * n
    → all w (checked.Declare d ∷ ss) ≤ w.each * (1 + (m + n))
declared_light w adds d ss m n h i =
    let k = adds.declaration d in
    let l = adds.sequence (checked.Declare d) (checked.statements ss) in
    let t = times_2 w.each m n in
    omega arith

-- an array's initialiser is a fault, and isn't kept
unkept_light : (w : Weights) (s : Names) (o : Option Expression) (n : ℕ)
    → optional w (without_initialiser s o).value ≤ n
unkept_light w s None n = omega arith
unkept_light w s (Some e) n = omega arith

initial_light : (w : Weights) → NodesAdd w → (s : Names) (type : CType) (k : Option Length)
    (o : Option Expression)
    → optional w (local_value s type k o).value ≤ w.each * nodes_of_optional o
initial_light w adds s type None o =
    optional_light w (λ e. to_type type (start e) (resolve_expression s e))
    (λ e. typed_light w adds s type (start e) e) o
initial_light w adds s type (Some k) o = unkept_light w s o (w.each * nodes_of_optional o)

declares_light : (w : Weights) → NodesAdd w → StatementsAdd w
    → (a : Environment) (base : Base) (ls : List Local) (block : Scope) (n : Numbering)
    → all w (declare_all a base ls block n).done ≤ w.each * nodes_of_locals ls
declares_light w on_nodes adds a base [] block n = let h = adds.no_statement in omega arith
declares_light w on_nodes adds a base (l ∷ ls) block n =
    let m = declare a base l block n in
    let type : CType = record { base = base; pointers = l.pointers } in
    declared_light w adds _ (declare_all a base ls m.block m.counts).done
    (nodes_of_optional l.initialiser) (nodes_of_locals ls)
    (initial_light w on_nodes (names_at a m.block) type l.length l.initialiser)
    (declares_light w on_nodes adds a base ls m.block m.counts)

names_light : (w : Weights) → StatementsAdd w → (ss : List checked.Statement)
    → w.declared (names_only ss) ≤ all w ss
names_light w adds [] = let h = adds.no_declared in omega arith
names_light w adds (checked.Declare d ∷ ss) =
    let i = names_light w adds ss in
    let h = adds.several_declared d (names_only ss) in
    let k = adds.sequence (checked.Declare d) (checked.statements ss) in
    omega arith
names_light w adds (s ∷ ss) = let i = names_light w adds ss in
    let k = adds.sequence s (checked.statements ss) in omega arith

begins_light : (w : Weights) → NodesAdd w → StatementsAdd w
    → (a : Environment) (f : ForInitialiser) (n : Numbering)
    → w.declared (resolve_for_initialiser a f n).declared
    + optional w (resolve_for_initialiser a f n).first.value ≤ w.each * nodes_of_for_initialiser f
begins_light w on_nodes adds a (Declaring base ls) n =
    let i = names_light w adds (declare_all a base ls [] n).done in
    let j = declares_light w on_nodes adds a base ls [] n in
    omega arith
begins_light w on_nodes adds a (Evaluating e) n =
    let v = optional_light w (λ e. any (resolve_expression (names_at a []) e))
    (λ e. any_light w on_nodes (names_at a []) e) e in
    let h = adds.no_declared in
    omega arith

-- ---- other parts

chosen_value : (w : Weights) (b : Bool) (x y : Optional) (n : ℕ) → optional w x.value ≤ n
    → optional w y.value ≤ n → optional w (if b then x else y).value ≤ n
chosen_value w true x y n h k = h
chosen_value w false x y n h k = k

returned_light : (w : Weights) → NodesAdd w → (a : Environment) (block : Scope) (at : ℕ)
    (e : Option Expression) → optional w (returned a block at e).value
    ≤ w.each * nodes_of_optional e
returned_light w on_nodes a block at None = omega arith
returned_light w on_nodes a block at (Some e) = chosen_value w (is_void a.returns) _ _
    (w.each * counted.nodes e) (omega arith) (typed_light w on_nodes (names_at a block) a.returns
    (start e) e)

abbrev filter_weight : Weights → checked.Filter → ℕ
filter_weight w checked.Always = 0
filter_weight w (checked.Funclet k e) = w.expression e

chosen_filter : (w : Weights) (b : Bool) (x y : ResolvedFilter) (n : ℕ)
    → filter_weight w x.filter ≤ n → filter_weight w y.filter ≤ n
    → filter_weight w (if b then x else y).filter ≤ n
chosen_filter w true x y n h k = h
chosen_filter w false x y n h k = k

filter_light : (w : Weights) → NodesAdd w → (a : Environment) (block : Scope) (e : Expression)
    (number : ℕ) → filter_weight w (resolve_filter a block e number).filter
    ≤ w.each * counted.nodes e
filter_light w on_nodes a block e number = chosen_filter w (always a block e) _ _
    (w.each * counted.nodes e) (omega arith) (answer_light w on_nodes (filter_names a block)
    (start e) e)

try_light : (w : Weights) → StatementsAdd w → (body : checked.Statements) (f : checked.Filter)
    (handler : checked.Statements)
    → w.statement (checked.TryExcept body f handler)
    ≤ w.each + (w.statements body + (filter_weight w f + w.statements handler))
try_light w adds body checked.Always handler = let h = adds.accepting body handler in omega arith
try_light w adds body (checked.Funclet k e) handler = adds.filtering body k e handler

-- ---- statements

mutual
  statement_light : (w : Weights) → NodesAdd w → StatementsAdd w
      → (s : Statement) (a : Environment) (block : Scope) (n : Numbering)
      → all w (resolve_statement s a block n).done ≤ w.each * nodes_of_statement s
  statement_light w on_nodes adds (statements.Declare base ls) a block n =
      let i = declares_light w on_nodes adds a base ls block n in
      let t = times_1 w.each (nodes_of_locals ls) in
      omega arith
  statement_light w on_nodes adds (statements.Block ss) a block n =
      let i = statements_light w on_nodes adds ss (inside a block) [] n in
      let h = adds.block (checked.statements (resolve_statements ss (inside a block) [] n).done) in
      let t = times_1 w.each (nodes_of_statements ss) in
      alone w adds _ _ (omega arith)
  statement_light w on_nodes adds (statements.Evaluate e) a block n =
      let v = optional_light w (λ e. any (resolve_expression (names_at a block) e))
      (λ e. any_light w on_nodes (names_at a block) e) e in
      let h = adds.evaluation (optional_of (λ e. any (resolve_expression (names_at a block) e))
      e).value in
      let t = times_1 w.each (nodes_of_optional e) in
      alone w adds _ _ (omega arith)
  statement_light w on_nodes adds (statements.If at c s) a block n =
      let m = (resolve_statement s (inside a block) [] n).done in
      let u = condition_light w on_nodes (names_at a block) at c in
      let v = part_light w adds s m (statement_light w on_nodes adds s (inside a block) [] n) in
      let h = adds.if_alone (condition at (resolve_expression (names_at a block) c)).value
      (only m) in
      let t = times_2 w.each (counted.nodes c) (nodes_of_statement s) in
      alone w adds _ _ (omega arith)
  statement_light w on_nodes adds (statements.IfElse at c s u) a block n =
      let m = resolve_statement s (inside a block) [] n in
      let k = resolve_statement u (inside a block) [] m.counts in
      let v = condition_light w on_nodes (names_at a block) at c in
      let x = part_light w adds s m.done (statement_light w on_nodes adds s (inside a block) []
      n) in
      let y = part_light w adds u k.done (statement_light w on_nodes adds u (inside a block) []
      m.counts) in
      let h = adds.if_else (condition at (resolve_expression (names_at a block) c)).value
      (only m.done) (only k.done) in
      let t = times_3 w.each (counted.nodes c) (nodes_of_statement s) (nodes_of_statement u) in
      alone w adds _ _ (omega arith)
  statement_light w on_nodes adds (statements.While at c s) a block n =
      let m = (resolve_statement s (record (inside a block) { loop = Near }) [] n).done in
      let u = condition_light w on_nodes (names_at a block) at c in
      let v = part_light w adds s m (statement_light w on_nodes adds s
      (record (inside a block) { loop = Near }) [] n) in
      let h = adds.for_loop [] None (Some (condition at
      (resolve_expression (names_at a block) c)).value) None (only m) in
      let k = adds.no_declared in
      let t = times_2 w.each (counted.nodes c) (nodes_of_statement s) in
      alone w adds _ _ (omega arith)
  statement_light w on_nodes adds (statements.DoWhile s at c) a block n =
      let m = (resolve_statement s (record (inside a block) { loop = Near }) [] n).done in
      let u = condition_light w on_nodes (names_at a block) at c in
      let v = part_light w adds s m (statement_light w on_nodes adds s
      (record (inside a block) { loop = Near }) [] n) in
      let h = adds.do_loop (only m) (condition at
      (resolve_expression (names_at a block) c)).value in
      let t = times_2 w.each (nodes_of_statement s) (counted.nodes c) in
      alone w adds _ _ (omega arith)
  statement_light w on_nodes adds (statements.For at f c next s) a block n =
      let here = inside a block in
      let b = resolve_for_initialiser here f n in
      let names = names_at here b.resolved.block in
      let m = (resolve_statement s (record (inside here b.resolved.block) { loop = Near }) []
      b.resolved.counts).done in
      let u = begins_light w on_nodes adds here f n in
      let v = optional_light w (λ e. condition at (resolve_expression names e))
      (λ e. condition_light w on_nodes names at e) c in
      let x = optional_light w (λ e. any (resolve_expression names e))
      (λ e. any_light w on_nodes names e) next in
      let y = part_light w adds s m (statement_light w on_nodes adds s
      (record (inside here b.resolved.block) { loop = Near }) [] b.resolved.counts) in
      let h = adds.for_loop b.declared b.first.value
      (optional_of (λ e. condition at (resolve_expression names e)) c).value
      (optional_of (λ e. any (resolve_expression names e)) next).value (only m) in
      let t = times_4 w.each (nodes_of_for_initialiser f) (nodes_of_optional c)
      (nodes_of_optional next) (nodes_of_statement s) in
      alone w adds _ _ (omega arith)
  statement_light w on_nodes adds (statements.Return at e) a block n =
      let v = returned_light w on_nodes a block at e in
      let h = adds.returning (returned a block at e).value in
      let t = times_1 w.each (nodes_of_optional e) in
      alone w adds _ _ (omega arith)
  statement_light w on_nodes adds (statements.Break at) a block n = let h = adds.breaking in
      let e = mul-one w.each in alone w adds _ _ (omega arith)
  statement_light w on_nodes adds (statements.Continue at) a block n = let h = adds.continuing in
      let e = mul-one w.each in alone w adds _ _ (omega arith)
  statement_light w on_nodes adds (statements.Leave at) a block n = let h = adds.leaving in
      let e = mul-one w.each in alone w adds _ _ (omega arith)
  statement_light w on_nodes adds (statements.TryExcept body at f handler) a block n =
      let here = inside a block in
      let m = resolve_statements body (record here { body = Near }) [] n in
      let q = resolve_filter a block f m.counts.number in
      let k = resolve_statements handler (record here { code = true }) []
      (with_number m.counts q.number) in
      let u = statements_light w on_nodes adds body (record here { body = Near }) [] n in
      let v = filter_light w on_nodes a block f m.counts.number in
      let x = statements_light w on_nodes adds handler (record here { code = true }) []
      (with_number m.counts q.number) in
      let h = try_light w adds (checked.statements m.done) q.filter (checked.statements k.done) in
      let t = times_3 w.each (nodes_of_statements body) (counted.nodes f)
      (nodes_of_statements handler) in
      alone w adds _ _ (omega arith)
  statement_light w on_nodes adds (statements.TryFinally body at last) a block n =
      let here = inside a block in
      let m = resolve_statements body (record here { body = Near }) [] n in
      let there : Environment = record here {
        loop = past_finally a.loop;
        body = past_finally a.body;
        function = Beyond;
        abnormal = true;
      } in
      let k = resolve_statements last there [] (with_number m.counts (m.counts.number + 1)) in
      let u = statements_light w on_nodes adds body (record here { body = Near }) [] n in
      let x = statements_light w on_nodes adds last there []
      (with_number m.counts (m.counts.number + 1)) in
      let h = adds.finishing (checked.statements m.done) m.counts.number
      (checked.statements k.done) in
      let t = times_2 w.each (nodes_of_statements body) (nodes_of_statements last) in
      alone w adds _ _ (omega arith)

  statements_light : (w : Weights) → NodesAdd w → StatementsAdd w
      → (ss : Statements) (a : Environment) (block : Scope) (n : Numbering)
      → all w (resolve_statements ss a block n).done ≤ w.each * nodes_of_statements ss
  statements_light w on_nodes adds statements.Empty a block n = let h = adds.no_statement in
      omega arith
  statements_light w on_nodes adds (statements.Then s ss) a block n =
      let m = resolve_statement s a block n in
      let rest = resolve_statements ss a m.block m.counts in
      let i = statement_light w on_nodes adds s a block n in
      let j = statements_light w on_nodes adds ss a m.block m.counts in
      let e = all_append w adds m.done rest.done in
      let t = mul-add w.each (nodes_of_statement s) (nodes_of_statements ss) in
      omega arith

-- ---- programs

function_light : (w : Weights) → FunctionsAdd w
    → (f : checked_program.Function) (fs : List checked_program.Function) (k m n : ℕ)
    → length f.locals ≤ 1 + m → w.statements f.body ≤ w.each * m → w.functions fs ≤ (w.each + 1) * n
    → w.functions (f ∷ fs) ≤ (w.each + 1) * ((1 + (k + m)) + n)
function_light w adds f fs k m n few h i =
    let l = adds.several_functions f fs in
    let own = 1 + (k + m) in
    let e = mul-add (w.each + 1) own n in
    let a = add-mul w.each 1 own in
    let t = times_2 w.each k m in
    omega arith

functions_light : (w : Weights) → NodesAdd w → StatementsAdd w → FunctionsAdd w
    → (text : List ℕ) (file : Scope) (xs : List ExternalDeclaration) (number : ℕ)
    → w.functions (functions_of text file xs number).done ≤ (w.each + 1) * nodes_of xs
functions_light w on_nodes adds all_add text file [] number = let h = all_add.no_function in
    omega arith
functions_light w on_nodes adds all_add text file (Globals base gs ∷ xs) number =
    let i = functions_light w on_nodes adds all_add text file xs number in
    let e = mul-add (w.each + 1) (nodes_of_globals gs) (nodes_of xs) in
    omega arith
functions_light w on_nodes adds all_add text file (Function t n ps body ∷ xs) number =
    let begun : Numbering = record {
      sizes = map (λ p. size_of p.of) ps;
      variables = map parameter_variable ps;
      number = number;
    } in
    let block = with_parameters text ps [] 0 in
    let m = resolve_statements body (around text file t) block begun in
    let layout = layout_of m.counts.variables (checked.statements m.done) in
    function_light w all_add _ (functions_of text file xs
    (function_of text file t n ps body number).number).done (length ps) (nodes_of_statements body)
    (nodes_of xs) (few_locals ps body (around text file t) block begun layout
    (length-map ps (λ (p : Parameter). size_of p.of)))
    (statements_light (placed w layout) (nodes_placed w layout on_nodes)
    (statements_placed w layout adds) body (around text file t) block begun)
    (functions_light w on_nodes adds all_add text file xs
    (function_of text file t n ps body number).number)

pub weight_is_bounded : WeightIsBounded
weight_is_bounded w on_nodes adds all_add text xs = functions_light w on_nodes adds all_add text
    (file_of text xs empty_file).scope xs 1
