-- Statements are resolved to such that are nested no deeper.
use Rattle.std.proofs.Common.{◌≡◌, ℕ, ◌+◌, ◌≤◌, max, refl, sym, subst, arith}
use Rattle.std.specs.Prelude.{Bool, true, false, if◌then◌else◌, List, [], ◌∷◌, ◌++◌, map, Option, Some, None}
use Rattle.c_checked.specs.Expression as nodes
use Rattle.c_checked.specs.Statement as checked
use Rattle.text_bounds.specs.Words.{Base, CType, start, ExternalDeclaration, Globals, Statement, Statements, ForInitialiser, Declaring, Evaluating, is_void, size_of, TypedNode, Names, FaultAt, resolve_expression, file_of, empty_file, with_parameters, around, function_of, functions_of, resolve, Scope, Near, Beyond, past_finally, with_number, Environment, Numbering, names_at, filter_names, inside, any, condition, to_type, to_answer, Value, Optional, without_initialiser, local_value, declare, declare_all, only, returned, always, ResolvedFilter, resolve_filter, names_only, resolve_for_initialiser, resolve_statement, resolve_statements, height, expression_nesting, expression_reads, declared_notes, statement_notes, statements_notes, most_of_optional, most_of_declared, most_of_filter, most_of_statement, most_of, AreShallow, layout_of, parameter_variable}
use Rattle.c_syntax.specs.Expression.{Expression}
use Rattle.c_syntax.specs.Program.{Function}
use Rattle.c_syntax.specs.Statement as statements
use Rattle.c_syntax.specs.Statement.{Local}
use Rattle.c_resolved.specs.Statements.{optional}
use Rattle.c_syntax.specs.Limits.{every_limit, EachWithinFirst, height_of, height_of_locals, height_of_for_initialiser, expressions_over, expressions_over_all, statements_over, statements_over_all, over_block_item}
use Rattle.text_bounds.proofs.Lemmas.{accepted_is_sound}
use Rattle.lowering_invariants.proofs.SmallNumbers.Small.{lowered_is_small}
use Rattle.text_bounds.specs.NestingLaws.{ResolvedIsShallow, AcceptedIsSmall}
use Rattle.text_bounds.proofs.OperatorNesting.{ShallowIf}
use Rattle.text_bounds.proofs.ExpressionNesting.{resolved_shallow}
use Rattle.text_bounds.proofs.PlacedNesting.{nesting_placed, reads_placed, notes_placed}
use Rattle.c_syntax.specs.declared.declaration.Length.{Length}

-- ---- values

abbrev IsShallowValue : ℕ → nodes.Expression → Type 0
IsShallowValue n v = (expression_nesting v ≤ n) × (expression_reads v ≤ 15)

found_any : (n : ℕ) (o : Option TypedNode) (fs : List FaultAt) → ShallowIf n o
    → IsShallowValue n (any (record { found = o; faults = fs })).value
found_any n None fs h = (omega arith, omega arith)
found_any n (Some t) fs h = h

found_condition : (n at : ℕ) (o : Option TypedNode) (fs : List FaultAt) → ShallowIf n o
    → IsShallowValue n (condition at (record { found = o; faults = fs })).value
found_condition n at None fs h = (omega arith, omega arith)
found_condition n at (Some t) fs h = h

found_typed : (n : ℕ) (type : CType) (at : ℕ) (o : Option TypedNode) (fs : List FaultAt)
    → ShallowIf n o → IsShallowValue n (to_type type at (record { found = o; faults = fs })).value
found_typed n type at None fs h = (omega arith, omega arith)
found_typed n type at (Some t) fs h = h

found_answer : (n at : ℕ) (o : Option TypedNode) (fs : List FaultAt) → ShallowIf n o
    → IsShallowValue n (to_answer at (record { found = o; faults = fs })).value
found_answer n at None fs h = (omega arith, omega arith)
found_answer n at (Some t) fs h = h

any_shallow : (s : Names) (e : Expression) → IsShallowValue (height e)
    (any (resolve_expression s e)).value
any_shallow s e = found_any (height e) (resolve_expression s e).found
    (resolve_expression s e).faults (resolved_shallow s e)

condition_shallow : (s : Names) (at : ℕ) (e : Expression)
    → IsShallowValue (height e) (condition at (resolve_expression s e)).value
condition_shallow s at e = found_condition (height e) at (resolve_expression s e).found
    (resolve_expression s e).faults (resolved_shallow s e)

typed_shallow : (s : Names) (type : CType) (at : ℕ) (e : Expression)
    → IsShallowValue (height e) (to_type type at (resolve_expression s e)).value
typed_shallow s type at e = found_typed (height e) type at (resolve_expression s e).found
    (resolve_expression s e).faults (resolved_shallow s e)

answer_shallow : (s : Names) (at : ℕ) (e : Expression)
    → IsShallowValue (height e) (to_answer at (resolve_expression s e)).value
answer_shallow s at e = found_answer (height e) at (resolve_expression s e).found
    (resolve_expression s e).faults (resolved_shallow s e)

abbrev IsShallowOptional : ℕ → Option nodes.Expression → Type 0
IsShallowOptional n o = (most_of_optional expression_nesting o ≤ n)
    × (most_of_optional expression_reads o ≤ 15)

optional_shallow : (f : Expression → Value) →
    ((e : Expression) → IsShallowValue (height e) (f e).value) → (o : Option Expression)
    → IsShallowOptional (height_of o) (optional f o).value
optional_shallow f h None = (omega arith, omega arith)
optional_shallow f h (Some e) = h e

-- ---- lists of statements

abbrev nests : List checked.Statement → ℕ
nests ss = most_of expression_nesting (checked.statements ss)

abbrev reads : List checked.Statement → ℕ
reads ss = most_of expression_reads (checked.statements ss)

abbrev notes : List checked.Statement → ℕ
notes ss = statements_notes (checked.statements ss)

most_append : (f : nodes.Expression → ℕ) (ss ts : List checked.Statement)
    → most_of f (checked.statements (ss ++ ts))
    ≡ max (most_of f (checked.statements ss)) (most_of f (checked.statements ts))
most_append f [] ts = omega arith
most_append f (s ∷ ss) ts = let i = most_append f ss ts in omega arith

notes_append : (ss ts : List checked.Statement) → notes (ss ++ ts) ≡ max (notes ss) (notes ts)
notes_append [] ts = omega arith
notes_append (s ∷ ss) ts = let i = notes_append ss ts in omega arith

only_most : (f : nodes.Expression → ℕ) (ss : List checked.Statement)
    → most_of_statement f (only ss) ≤ most_of f (checked.statements ss)
only_most f [] = omega arith
only_most f (s ∷ ss) = omega arith

only_notes : (ss : List checked.Statement) → statement_notes (only ss) ≤ notes ss
only_notes [] = omega arith
only_notes (s ∷ ss) = omega arith

abbrev AreShallowIn : ℕ → List checked.Statement → Type 0
AreShallowIn n ss = (nests ss ≤ n) × (reads ss ≤ 15)

-- ---- declarations

-- an array has none
unkept_shallow : (s : Names) (o : Option Expression) (n : ℕ)
    → IsShallowOptional n (without_initialiser s o).value
unkept_shallow s None n = (omega arith, omega arith)
unkept_shallow s (Some e) n = (omega arith, omega arith)

initial_shallow : (s : Names) (type : CType) (k : Option Length) (o : Option Expression)
    → IsShallowOptional (height_of o) (local_value s type k o).value
initial_shallow s type None o =
    optional_shallow (λ e. to_type type (start e) (resolve_expression s e))
    (λ e. typed_shallow s type (start e) e) o
initial_shallow s type (Some k) o = unkept_shallow s o (height_of o)

declares_shallow : (a : Environment) (base : Base) (ls : List Local) (block : Scope) (n : Numbering)
    → AreShallowIn (height_of_locals ls) (declare_all a base ls block n).done
declares_shallow a base [] block n = (omega arith, omega arith)
declares_shallow a base (l ∷ ls) block n =
    let m = declare a base l block n in
    let type : CType = record { base = base; pointers = l.pointers } in
    let v = initial_shallow (names_at a m.block) type l.length l.initialiser in
    let rest = declares_shallow a base ls m.block m.counts in
    let p = v.0 in let q = v.1 in let r = rest.0 in let s = rest.1 in
    (omega arith, omega arith)

declares_notes : (a : Environment) (base : Base) (ls : List Local) (block : Scope) (n : Numbering)
    → notes (declare_all a base ls block n).done ≤ 0
declares_notes a base [] block n = omega arith
declares_notes a base (l ∷ ls) block n = let m = declare a base l block n in
    let rest = declares_notes a base ls m.block m.counts in omega arith

names_most : (f : nodes.Expression → ℕ) (ss : List checked.Statement)
    → most_of_declared f (names_only ss) ≤ most_of f (checked.statements ss)
names_most f [] = omega arith
names_most f (checked.Declare d ∷ ss) = let i = names_most f ss in omega arith
names_most f (s ∷ ss) = let i = names_most f ss in omega arith

begins_shallow : (a : Environment) (f : ForInitialiser) (n : Numbering)
    → (max (most_of_declared expression_nesting (resolve_for_initialiser a f n).declared)
    (most_of_optional expression_nesting (resolve_for_initialiser a f n).first.value)
    ≤ height_of_for_initialiser f)
    × (max (most_of_declared expression_reads (resolve_for_initialiser a f n).declared)
    (most_of_optional expression_reads (resolve_for_initialiser a f n).first.value) ≤ 15)
begins_shallow a (Declaring base ls) n =
    let done = (declare_all a base ls [] n).done in
    let i = names_most expression_nesting done in
    let j = names_most expression_reads done in
    let k = declares_shallow a base ls [] n in
    let p = k.0 in let q = k.1 in
    (omega arith, omega arith)
begins_shallow a (Evaluating e) n =
    let v = optional_shallow (λ e. any (resolve_expression (names_at a []) e))
    (λ e. any_shallow (names_at a []) e) e in
    let p = v.0 in let q = v.1 in
    (omega arith, omega arith)

names_notes : (ss : List checked.Statement) → declared_notes (names_only ss) ≤ notes ss
names_notes [] = omega arith
names_notes (checked.Declare d ∷ ss) = let i = names_notes ss in omega arith
names_notes (s ∷ ss) = let i = names_notes ss in omega arith

begins_notes : (a : Environment) (f : ForInitialiser) (n : Numbering)
    → declared_notes (resolve_for_initialiser a f n).declared ≤ 0
begins_notes a (Declaring base ls) n = let i = names_notes (declare_all a base ls [] n).done in
    let j = declares_notes a base ls [] n in omega arith
begins_notes a (Evaluating e) n = omega arith

-- ---- other parts

chosen_value : (b : Bool) (x y : Optional) (n : ℕ) → IsShallowOptional n x.value
    → IsShallowOptional n y.value → IsShallowOptional n (if b then x else y).value
chosen_value true x y n h k = h
chosen_value false x y n h k = k

returned_shallow : (a : Environment) (block : Scope) (at : ℕ) (e : Option Expression)
    → IsShallowOptional (height_of e) (returned a block at e).value
returned_shallow a block at None = (omega arith, omega arith)
returned_shallow a block at (Some e) = chosen_value (is_void a.returns) _ _ (height e)
    (omega arith, omega arith) (typed_shallow (names_at a block) a.returns (start e) e)

abbrev IsShallowFilter : ℕ → checked.Filter → Type 0
IsShallowFilter n f = (most_of_filter expression_nesting f ≤ n)
    × (most_of_filter expression_reads f ≤ 15)

chosen_filter : (b : Bool) (x y : ResolvedFilter) (n : ℕ) → IsShallowFilter n x.filter
    → IsShallowFilter n y.filter → IsShallowFilter n (if b then x else y).filter
chosen_filter true x y n h k = h
chosen_filter false x y n h k = k

filter_shallow : (a : Environment) (block : Scope) (e : Expression) (number : ℕ)
    → IsShallowFilter (height e) (resolve_filter a block e number).filter
filter_shallow a block e number = chosen_filter (always a block e) _ _ (height e)
    (omega arith, omega arith) (answer_shallow (filter_names a block) (start e) e)

-- ---- the expressions of statements

mutual
  statement_shallow : (s : Statement) (a : Environment) (block : Scope) (n : Numbering)
      → AreShallowIn (expressions_over s) (resolve_statement s a block n).done
  statement_shallow (statements.Declare base ls) a block n = declares_shallow a base ls block n
  statement_shallow (statements.Block ss) a block n = let i = statements_shallow ss (inside a block)
      [] n in let p = i.0 in let q = i.1 in (omega arith, omega arith)
  statement_shallow (statements.Evaluate e) a block n =
      let v = optional_shallow (λ e. any (resolve_expression (names_at a block) e))
      (λ e. any_shallow (names_at a block) e) e in let p = v.0 in let q = v.1 in
      (omega arith, omega arith)
  statement_shallow (statements.If at c s) a block n =
      let done = (resolve_statement s (inside a block) [] n).done in
      let v = condition_shallow (names_at a block) at c in
      let m = statement_shallow s (inside a block) [] n in
      let x = only_most expression_nesting done in let y = only_most expression_reads done in
      let p = v.0 in let q = v.1 in let r = m.0 in let t = m.1 in
      (omega arith, omega arith)
  statement_shallow (statements.IfElse at c s u) a block n =
      let first = resolve_statement s (inside a block) [] n in
      let done = (resolve_statement u (inside a block) [] first.counts).done in
      let v = condition_shallow (names_at a block) at c in
      let m = statement_shallow s (inside a block) [] n in
      let k = statement_shallow u (inside a block) [] first.counts in
      let x = only_most expression_nesting first.done in
      let y = only_most expression_reads first.done in
      let x' = only_most expression_nesting done in let y' = only_most expression_reads done in
      let p = v.0 in let q = v.1 in let r = m.0 in let t = m.1 in let r' = k.0 in let t' = k.1 in
      (omega arith, omega arith)
  statement_shallow (statements.While at c s) a block n =
      let within = record (inside a block) { loop = Near } in
      let done = (resolve_statement s within [] n).done in
      let v = condition_shallow (names_at a block) at c in
      let m = statement_shallow s within [] n in
      let x = only_most expression_nesting done in let y = only_most expression_reads done in
      let p = v.0 in let q = v.1 in let r = m.0 in let t = m.1 in
      (omega arith, omega arith)
  statement_shallow (statements.DoWhile s at c) a block n =
      let within = record (inside a block) { loop = Near } in
      let done = (resolve_statement s within [] n).done in
      let v = condition_shallow (names_at a block) at c in
      let m = statement_shallow s within [] n in
      let x = only_most expression_nesting done in let y = only_most expression_reads done in
      let p = v.0 in let q = v.1 in let r = m.0 in let t = m.1 in
      (omega arith, omega arith)
  statement_shallow (statements.For at f c next s) a block n =
      let here = inside a block in
      let b = resolve_for_initialiser here f n in
      let within = record (inside here b.resolved.block) { loop = Near } in
      let done = (resolve_statement s within [] b.resolved.counts).done in
      let u = begins_shallow here f n in
      let v = optional_shallow (λ e. condition at
      (resolve_expression (names_at here b.resolved.block) e))
      (λ e. condition_shallow (names_at here b.resolved.block) at e) c in
      let w = optional_shallow (λ e. any (resolve_expression (names_at here b.resolved.block) e))
      (λ e. any_shallow (names_at here b.resolved.block) e) next in
      let m = statement_shallow s within [] b.resolved.counts in
      let x = only_most expression_nesting done in let y = only_most expression_reads done in
      let p = u.0 in let q = u.1 in let p' = v.0 in let q' = v.1 in let p'' = w.0 in
      let q'' = w.1 in let r = m.0 in let t = m.1 in
      (omega arith, omega arith)
  statement_shallow (statements.Return at e) a block n = let v = returned_shallow a block at e in
      let p = v.0 in let q = v.1 in (omega arith, omega arith)
  statement_shallow (statements.Break at) a block n = (omega arith, omega arith)
  statement_shallow (statements.Continue at) a block n = (omega arith, omega arith)
  statement_shallow (statements.Leave at) a block n = (omega arith, omega arith)
  statement_shallow (statements.TryExcept body at f handler) a block n =
      let here = inside a block in
      let counts = (resolve_statements body (record here { body = Near }) [] n).counts in
      let m = statements_shallow body (record here { body = Near }) [] n in
      let v = filter_shallow a block f counts.number in
      let k = statements_shallow handler (record here { code = true }) []
      (with_number counts (resolve_filter a block f counts.number).number) in
      let p = v.0 in let q = v.1 in let r = m.0 in let t = m.1 in let r' = k.0 in let t' = k.1 in
      (omega arith, omega arith)
  statement_shallow (statements.TryFinally body at last) a block n =
      let here = inside a block in
      let counts = (resolve_statements body (record here { body = Near }) [] n).counts in
      let m = statements_shallow body (record here { body = Near }) [] n in
      let k = statements_shallow last (record here {
        loop = past_finally a.loop;
        body = past_finally a.body;
        function = Beyond;
        abnormal = true;
      }) [] (with_number counts (counts.number + 1)) in
      let r = m.0 in let t = m.1 in let r' = k.0 in let t' = k.1 in
      (omega arith, omega arith)

  statements_shallow : (ss : Statements) (a : Environment) (block : Scope) (n : Numbering)
      → AreShallowIn (expressions_over_all ss) (resolve_statements ss a block n).done
  statements_shallow statements.Empty a block n = (omega arith, omega arith)
  statements_shallow (statements.Then s ss) a block n =
      let m = resolve_statement s a block n in
      let rest = resolve_statements ss a m.block m.counts in
      let i = statement_shallow s a block n in
      let j = statements_shallow ss a m.block m.counts in
      let e = most_append expression_nesting m.done rest.done in
      let g = most_append expression_reads m.done rest.done in
      let p = i.0 in let q = i.1 in let r = j.0 in let t = j.1 in
      (omega arith, omega arith)

-- ---- the blocks of statements

item_over : (s : Statement) (m : ℕ) → m ≤ 1 + statements_over s
    → ((base : Base) (ls : List Local) → s ≡ statements.Declare base ls → m ≤ 0)
    → m ≤ over_block_item s (statements_over s)
item_over (statements.Declare base ls) m h d = let z = d base ls refl in omega arith
item_over (statements.Block ss) m h d = h
item_over s m h d = h

declare_notes : (s : Statement) (a : Environment) (block : Scope) (n : Numbering) (base : Base)
    (ls : List Local) → s ≡ statements.Declare base ls
    → notes (resolve_statement s a block n).done ≤ 0
declare_notes s a block n base ls e = subst (λ t. notes (resolve_statement t a block n).done ≤ 0)
    (sym e) (declares_notes a base ls block n)

mutual
  statement_blocks : (s : Statement) (a : Environment) (block : Scope) (n : Numbering)
      → notes (resolve_statement s a block n).done ≤ 1 + statements_over s
  statement_blocks (statements.Declare base ls) a block n = let i = declares_notes a base ls block
      n in omega arith
  statement_blocks (statements.Block ss) a block n = let i = statements_blocks ss (inside a block)
      [] n in omega arith
  statement_blocks (statements.Evaluate e) a block n = omega arith
  statement_blocks (statements.If at c s) a block n =
      let m = statement_blocks s (inside a block) [] n in
      let x = only_notes (resolve_statement s (inside a block) [] n).done in omega arith
  statement_blocks (statements.IfElse at c s u) a block n =
      let first = resolve_statement s (inside a block) [] n in
      let m = statement_blocks s (inside a block) [] n in
      let k = statement_blocks u (inside a block) [] first.counts in
      let x = only_notes first.done in
      let y = only_notes (resolve_statement u (inside a block) [] first.counts).done in
      omega arith
  statement_blocks (statements.While at c s) a block n =
      let within = record (inside a block) { loop = Near } in
      let m = statement_blocks s within [] n in
      let x = only_notes (resolve_statement s within [] n).done in omega arith
  statement_blocks (statements.DoWhile s at c) a block n =
      let within = record (inside a block) { loop = Near } in
      let m = statement_blocks s within [] n in
      let x = only_notes (resolve_statement s within [] n).done in omega arith
  statement_blocks (statements.For at f c next s) a block n =
      let here = inside a block in
      let b = resolve_for_initialiser here f n in
      let within = record (inside here b.resolved.block) { loop = Near } in
      let m = statement_blocks s within [] b.resolved.counts in
      let y = begins_notes here f n in
      let x = only_notes (resolve_statement s within [] b.resolved.counts).done in
      omega arith
  statement_blocks (statements.Return at e) a block n = omega arith
  statement_blocks (statements.Break at) a block n = omega arith
  statement_blocks (statements.Continue at) a block n = omega arith
  statement_blocks (statements.Leave at) a block n = omega arith
  statement_blocks (statements.TryExcept body at f handler) a block n =
      let here = inside a block in
      let counts = (resolve_statements body (record here { body = Near }) [] n).counts in
      let m = statements_blocks body (record here { body = Near }) [] n in
      let k = statements_blocks handler (record here { code = true }) []
      (with_number counts (resolve_filter a block f counts.number).number) in
      omega arith
  statement_blocks (statements.TryFinally body at last) a block n =
      let here = inside a block in
      let counts = (resolve_statements body (record here { body = Near }) [] n).counts in
      let m = statements_blocks body (record here { body = Near }) [] n in
      let k = statements_blocks last (record here {
        loop = past_finally a.loop;
        body = past_finally a.body;
        function = Beyond;
        abnormal = true;
      }) [] (with_number counts (counts.number + 1)) in
      omega arith

  statements_blocks : (ss : Statements) (a : Environment) (block : Scope) (n : Numbering)
      → notes (resolve_statements ss a block n).done ≤ statements_over_all ss
  statements_blocks statements.Empty a block n = omega arith
  statements_blocks (statements.Then s ss) a block n =
      let m = resolve_statement s a block n in
      let rest = resolve_statements ss a m.block m.counts in
      let i = item_over s (notes m.done) (statement_blocks s a block n)
      (declare_notes s a block n) in
      let j = statements_blocks ss a m.block m.counts in
      let e = notes_append m.done rest.done in
      omega arith

-- ---- programs

functions_shallow : (text : List ℕ) (file : Scope) (xs : List ExternalDeclaration) (number : ℕ)
    → EachWithinFirst every_limit xs → AreShallow (functions_of text file xs number).done
functions_shallow text file [] number within = tt
functions_shallow text file (Globals base gs ∷ xs) number within = functions_shallow text file xs
    number within
functions_shallow text file (Function t n ps body ∷ xs) number within =
    let begun : Numbering = record {
      sizes = map (λ p. size_of p.of) ps;
      variables = map parameter_variable ps;
      number = number;
    } in
    let block = with_parameters text ps [] 0 in
    let m = resolve_statements body (around text file t) block begun in
    let draft = checked.statements m.done in
    let layout = layout_of m.counts.variables draft in
    let i = statements_shallow body (around text file t) block begun in
    let j = statements_blocks body (around text file t) block begun in
    let u = nesting_placed layout draft in
    let v = reads_placed layout draft in
    let w = notes_placed layout draft in
    let p = i.0 in
    let q = i.1 in
    let e = within.0.expressions (omega arith) in
    let s = within.0.statements (omega arith) in (
      record { expressions = omega arith; parameters = omega arith; blocks = omega arith },
      functions_shallow text file xs (function_of text file t n ps body number).number within.1,
    )

pub resolved_is_shallow : ResolvedIsShallow
resolved_is_shallow text xs within = functions_shallow text (file_of text xs empty_file).scope xs 1
    within.each

pub accepted_is_small : AcceptedIsSmall
accepted_is_small text xs within accepted = lowered_is_small (resolve text xs).program
    (accepted_is_sound text xs within accepted) (resolved_is_shallow text xs within)
