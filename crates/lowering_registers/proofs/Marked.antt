-- Marks that a part sets are those of the locals that it names, or that its filters and `__finally`
-- blocks name, or those of variables on the data stack.
use Rattle.std.proofs.Common.{◌≡◌, ℕ, zero, suc, ◌+◌, ◌<◌, Bool, true, false, List, [], ◌∷◌, refl, sym, ap, ◌∙◌, arith}
use Rattle.std.proofs.Math.Bool.{or_assoc, or-false, or-true}
use Rattle.std.proofs.lemmas.Bool.{eq-eqb, eqb-true, false_from_ne_true}
use Rattle.std.specs.Prelude.{◌||◌, nat_eq, slice_set, Option, Some, None}
use Rattle.c_checked.specs.declared.statement.StackedVariable.{StackedVariable}
use Rattle.c_checked.specs.declared.function.StackedParameter.{StackedParameter}
use Rattle.c_checked.specs.Program.{DataFrame}
use Rattle.c_checked.specs.Expression as nodes
use Rattle.c_checked.specs.Expression.{Expression, On, Node, Lvalue, Local, Global, Stacked, Indirection, Element, Arguments, Done, Next}
use Rattle.c_checked.specs.Statement.{Declared, Filter, Always, Funclet, Statement, Declare, Block, Evaluate, If, IfElse, For, DoWhile, Return, Break, Continue, Leave, TryExcept, TryFinally, Statements, Empty, Then}
use Rattle.lowering_registers.specs.Naming.{expression_names, node_names, lvalue_names, arguments_name, optional_names, stacked_names, declared_names, all_declared_name, filter_names, statement_names, statements_name}
use Rattle.lowering_registers.specs.Shared.{is_declared_at, is_stacked, is_brought, is_kept, statement_shares, statements_share}
use Rattle.lowering_registers.specs.Marks.{with_mark, with_expression, with_node, with_lvalue, with_arguments, with_optional, with_base, with_declared, with_all_declared, with_filter, with_statement, with_statements, with_mark_at, with_stacked, with_all_stacked, with_shared, with_all_shared, with_brought, with_kept}

-- marks from a local on, with those of all that have a property
abbrev pub marked : (ℕ → Bool) → ℕ → List Bool → List Bool
marked has x [] = []
marked has x (b ∷ bs) = (b || has x) ∷ marked has (x + 1) bs

-- ---- marks of none, of one, and of two kinds

none : (x : ℕ) (bs : List Bool) → bs ≡ marked (λ y. false) x bs
none x [] = refl
none x (b ∷ bs) = λ i. sym (or-false b) i ∷ none (x + 1) bs i

none_above : (z x : ℕ) (bs : List Bool) → z < x → bs ≡ marked (λ y. nat_eq y z) x bs
none_above z x [] lt = refl
none_above z x (b ∷ bs) lt =
    let other : nat_eq x z ≡ false = false_from_ne_true (nat_eq x z)
    (λ e. (let same = eqb-true x z e in absurd (omega arith))) in
    λ i. (sym (or-false b) ∙ ap (λ c. b || c) (sym other)) i
    ∷ none_above z (x + 1) bs (omega arith) i

one_from : (y x z : ℕ) (bs : List Bool) → z ≡ x + y
    → slice_set bs y true ≡ marked (λ w. nat_eq w z) x bs
one_from y x z [] e = refl
one_from zero x z (b ∷ bs) e =
    let here : nat_eq x z ≡ true = eq-eqb x z (omega arith) in
    λ i. (sym (or-true b) ∙ ap (λ c. b || c) (sym here)) i
    ∷ none_above z (x + 1) bs (omega arith) i
one_from (suc y) x z (b ∷ bs) e =
    let other : nat_eq x z ≡ false = false_from_ne_true (nat_eq x z)
    (λ h. (let same = eqb-true x z h in absurd (omega arith))) in
    λ i. (sym (or-false b) ∙ ap (λ c. b || c) (sym other)) i
    ∷ one_from y (x + 1) z bs (omega arith) i

both : (f g : ℕ → Bool) (x : ℕ) (bs : List Bool)
    → marked g x (marked f x bs) ≡ marked (λ y. f y || g y) x bs
both f g x [] = refl
both f g x (b ∷ bs) = λ i. or_assoc b (f x) (g x) i ∷ both f g (x + 1) bs i

-- ---- what sets the marks of all that have a property

abbrev pub IsMarking : (ℕ → Bool) → (List Bool → List Bool) → Type 0
IsMarking has with = (marks : List Bool) → with marks ≡ marked has 0 marks

one : (y : ℕ) → IsMarking (λ x. nat_eq x y) (with_mark y)
one y marks = one_from y 0 y marks (omega arith)

nothing : IsMarking (λ x. false) (λ marks. marks)
nothing marks = none 0 marks

pub two : (f g : ℕ → Bool) (m n : List Bool → List Bool) → IsMarking f m → IsMarking g n
    → IsMarking (λ x. f x || g x) (λ marks. n (m marks))
two f g m n p q marks = q (m marks) ∙ ap (marked g 0) (p marks) ∙ both f g 0 marks

-- ---- expressions

abbrev Sets : Expression → Type 0
Sets e = IsMarking (λ x. expression_names x e) (with_expression e)

pair : (e f : Expression) → Sets e → Sets f
    → IsMarking (λ x. expression_names x e || expression_names x f)
    (λ marks. with_expression f (with_expression e marks))
pair e f p q = two (λ x. expression_names x e) (λ x. expression_names x f) (with_expression e)
    (with_expression f) p q

assigned : (l : Lvalue) (e : Expression) → IsMarking (λ x. lvalue_names x l) (with_lvalue l)
    → Sets e → IsMarking (λ x. lvalue_names x l || expression_names x e)
    (λ marks. with_expression e (with_lvalue l marks))
assigned l e p q = two (λ x. lvalue_names x l) (λ x. expression_names x e) (with_lvalue l)
    (with_expression e) p q

mutual
  pub expression_sets : (e : Expression) → Sets e
  expression_sets (On n c) marks = node_sets n marks

  node_sets : (n : Node) → IsMarking (λ x. node_names x n) (with_node n)
  node_sets (nodes.Constant z v) marks = nothing marks
  node_sets (nodes.StackedArray base offset) marks = one base marks
  node_sets (nodes.Read p) marks = lvalue_sets p marks
  node_sets (nodes.AddressOf p) marks = lvalue_sets p marks
  node_sets (nodes.Assign p e) marks = assigned p e (lvalue_sets p) (expression_sets e) marks
  node_sets (nodes.CompoundAssign p before o e after) marks = assigned p e (lvalue_sets p)
      (expression_sets e) marks
  node_sets (nodes.Increment m p before o v after) marks = lvalue_sets p marks
  node_sets (nodes.Unary o e) marks = expression_sets e marks
  node_sets (nodes.Binary o e f) marks = pair e f (expression_sets e) (expression_sets f) marks
  node_sets (nodes.PointerDifference v e f) marks = pair e f (expression_sets e)
      (expression_sets f) marks
  node_sets (nodes.Not e) marks = expression_sets e marks
  node_sets (nodes.And e f) marks = pair e f (expression_sets e) (expression_sets f) marks
  node_sets (nodes.Or e f) marks = pair e f (expression_sets e) (expression_sets f) marks
  node_sets (nodes.Conditional c e f) marks =
      two (λ x. expression_names x c) (λ x. expression_names x e || expression_names x f)
      (with_expression c) (λ bs. with_expression f (with_expression e bs)) (expression_sets c)
      (pair e f (expression_sets e) (expression_sets f)) marks
  node_sets (nodes.Comma e f) marks = pair e f (expression_sets e) (expression_sets f) marks
  node_sets (nodes.Call f es) marks = arguments_set es marks
  node_sets (nodes.CallBuiltIn k es) marks = arguments_set es marks
  node_sets nodes.ExceptionCode marks = nothing marks
  node_sets (nodes.Information f) marks = nothing marks
  node_sets nodes.AbnormalTermination marks = nothing marks

  lvalue_sets : (p : Lvalue) → IsMarking (λ x. lvalue_names x p) (with_lvalue p)
  lvalue_sets (Local y) marks = one y marks
  lvalue_sets (Global access a) marks = nothing marks
  lvalue_sets (Stacked access base offset) marks = one base marks
  lvalue_sets (Indirection access e) marks = expression_sets e marks
  lvalue_sets (Element access e i) marks = pair e i (expression_sets e) (expression_sets i) marks

  arguments_set : (es : Arguments) → IsMarking (λ x. arguments_name x es) (with_arguments es)
  arguments_set Done marks = nothing marks
  arguments_set (Next e es) marks =
      two (λ x. expression_names x e) (λ x. arguments_name x es) (with_expression e)
      (with_arguments es) (expression_sets e) (arguments_set es) marks

-- ---- statements

optional_sets : (e : Option Expression) → IsMarking (λ x. optional_names x e) (with_optional e)
optional_sets None marks = nothing marks
optional_sets (Some e) marks = expression_sets e marks

base_sets : (v : Option StackedVariable) → IsMarking (λ x. stacked_names x v) (with_base v)
base_sets None marks = nothing marks
base_sets (Some v) marks = one v.base marks

declared_sets : (d : Declared) → IsMarking (λ x. declared_names x d) (with_declared d)
declared_sets d =
    two (λ x. nat_eq x d.local) (λ x. stacked_names x d.stacked || optional_names x d.value)
    (with_mark d.local) (λ bs. with_optional d.value (with_base d.stacked bs)) (one d.local)
    (two (λ x. stacked_names x d.stacked) (λ x. optional_names x d.value) (with_base d.stacked)
    (with_optional d.value) (base_sets d.stacked) (optional_sets d.value))

all_declared_set : (ds : List Declared)
    → IsMarking (λ x. all_declared_name x ds) (with_all_declared ds)
all_declared_set [] marks = nothing marks
all_declared_set (d ∷ ds) marks =
    two (λ x. declared_names x d) (λ x. all_declared_name x ds) (with_declared d)
    (with_all_declared ds) (declared_sets d) (all_declared_set ds) marks

filter_sets : (f : Filter) → IsMarking (λ x. filter_names x f) (with_filter f)
filter_sets Always marks = nothing marks
filter_sets (Funclet k e) marks = expression_sets e marks

mutual
  statement_sets : (s : Statement) → IsMarking (λ x. statement_names x s) (with_statement s)
  statement_sets (Declare d) marks = declared_sets d marks
  statement_sets (Block ss) marks = statements_set ss marks
  statement_sets (Evaluate e) marks = optional_sets e marks
  statement_sets (If c s) marks =
      two (λ x. expression_names x c) (λ x. statement_names x s) (with_expression c)
      (with_statement s) (expression_sets c) (statement_sets s) marks
  statement_sets (IfElse c s t) marks =
      two (λ x. expression_names x c) (λ x. statement_names x s || statement_names x t)
      (with_expression c) (λ bs. with_statement t (with_statement s bs)) (expression_sets c)
      (two (λ x. statement_names x s) (λ x. statement_names x t) (with_statement s)
      (with_statement t) (statement_sets s) (statement_sets t)) marks
  statement_sets (For ds first c next s) marks =
      two (λ x. all_declared_name x ds)
      (λ x. optional_names x first || (optional_names x c
      || (optional_names x next || statement_names x s))) (with_all_declared ds)
      (λ bs. with_statement s (with_optional next (with_optional c (with_optional first bs))))
      (all_declared_set ds)
      (two (λ x. optional_names x first)
      (λ x. optional_names x c || (optional_names x next || statement_names x s))
      (with_optional first) (λ bs. with_statement s (with_optional next (with_optional c bs)))
      (optional_sets first)
      (two (λ x. optional_names x c) (λ x. optional_names x next || statement_names x s)
      (with_optional c) (λ bs. with_statement s (with_optional next bs)) (optional_sets c)
      (two (λ x. optional_names x next) (λ x. statement_names x s) (with_optional next)
      (with_statement s) (optional_sets next) (statement_sets s)))) marks
  statement_sets (DoWhile s c) marks =
      two (λ x. statement_names x s) (λ x. expression_names x c) (with_statement s)
      (with_expression c) (statement_sets s) (expression_sets c) marks
  statement_sets (Return e) marks = optional_sets e marks
  statement_sets Break marks = nothing marks
  statement_sets Continue marks = nothing marks
  statement_sets Leave marks = nothing marks
  statement_sets (TryExcept body filter block) marks =
      two (λ x. statements_name x body) (λ x. filter_names x filter || statements_name x block)
      (with_statements body) (λ bs. with_statements block (with_filter filter bs))
      (statements_set body)
      (two (λ x. filter_names x filter) (λ x. statements_name x block) (with_filter filter)
      (with_statements block) (filter_sets filter) (statements_set block)) marks
  statement_sets (TryFinally body k last) marks =
      two (λ x. statements_name x body) (λ x. statements_name x last) (with_statements body)
      (with_statements last) (statements_set body) (statements_set last) marks

  statements_set : (ss : Statements) → IsMarking (λ x. statements_name x ss) (with_statements ss)
  statements_set Empty marks = nothing marks
  statements_set (Then s ss) marks =
      two (λ x. statement_names x s) (λ x. statements_name x ss) (with_statement s)
      (with_statements ss) (statement_sets s) (statements_set ss) marks

-- ---- filters and `__finally` blocks, and variables on the data stack

mark_at_sets : (v : Option StackedVariable) (local : ℕ)
    → IsMarking (λ x. is_declared_at x v local) (with_mark_at v local)
mark_at_sets None local marks = nothing marks
mark_at_sets (Some v) local marks = one local marks

all_stacked_set : (ds : List Declared) → IsMarking (λ x. is_stacked x ds) (with_all_stacked ds)
all_stacked_set [] marks = nothing marks
all_stacked_set (d ∷ ds) marks =
    two (λ x. is_declared_at x d.stacked d.local) (λ x. is_stacked x ds) (with_stacked d)
    (with_all_stacked ds) (mark_at_sets d.stacked d.local) (all_stacked_set ds) marks

mutual
  shared_sets : (s : Statement) → IsMarking (λ x. statement_shares x s) (with_shared s)
  shared_sets (Declare d) marks = mark_at_sets d.stacked d.local marks
  shared_sets (Block ss) marks = all_shared_set ss marks
  shared_sets (Evaluate e) marks = nothing marks
  shared_sets (If c s) marks = shared_sets s marks
  shared_sets (IfElse c s t) marks =
      two (λ x. statement_shares x s) (λ x. statement_shares x t) (with_shared s) (with_shared t)
      (shared_sets s) (shared_sets t) marks
  shared_sets (For ds first c next s) marks =
      two (λ x. is_stacked x ds) (λ x. statement_shares x s) (with_all_stacked ds) (with_shared s)
      (all_stacked_set ds) (shared_sets s) marks
  shared_sets (DoWhile s c) marks = shared_sets s marks
  shared_sets (Return e) marks = nothing marks
  shared_sets Break marks = nothing marks
  shared_sets Continue marks = nothing marks
  shared_sets Leave marks = nothing marks
  shared_sets (TryExcept body filter block) marks =
      two (λ x. statements_share x body) (λ x. filter_names x filter || statements_share x block)
      (with_all_shared body) (λ bs. with_all_shared block (with_filter filter bs))
      (all_shared_set body)
      (two (λ x. filter_names x filter) (λ x. statements_share x block) (with_filter filter)
      (with_all_shared block) (filter_sets filter) (all_shared_set block)) marks
  shared_sets (TryFinally body k last) marks =
      two (λ x. statements_share x body) (λ x. statements_name x last) (with_all_shared body)
      (with_statements last) (all_shared_set body) (statements_set last) marks

  -- the marks of the locals that filters and `__finally` blocks of statements name
  all_shared_set : (ss : Statements)
      → IsMarking (λ x. statements_share x ss) (with_all_shared ss)
  all_shared_set Empty marks = nothing marks
  all_shared_set (Then s ss) marks =
      two (λ x. statement_shares x s) (λ x. statements_share x ss) (with_shared s)
      (with_all_shared ss) (shared_sets s) (all_shared_set ss) marks

-- ---- of a whole function

brought_set : (ps : List StackedParameter) → IsMarking (λ x. is_brought x ps) (with_brought ps)
brought_set [] marks = nothing marks
brought_set (p ∷ ps) marks =
    two (λ x. nat_eq x p.parameter) (λ x. is_brought x ps) (with_mark p.parameter)
    (with_brought ps) (one p.parameter) (brought_set ps) marks

kept_set : (frame : Option DataFrame) → IsMarking (λ x. is_kept x frame) (with_kept frame)
kept_set None marks = nothing marks
kept_set (Some d) marks =
    two (λ x. nat_eq x d.base) (λ x. is_brought x d.parameters) (with_mark d.base)
    (with_brought d.parameters) (one d.base) (brought_set d.parameters) marks

pub function_set : (frame : Option DataFrame) (body : Statements)
    → IsMarking (λ x. is_kept x frame || statements_share x body)
    (λ marks. with_all_shared body (with_kept frame marks))
function_set frame body =
    two (λ x. is_kept x frame) (λ x. statements_share x body) (with_kept frame)
    (with_all_shared body) (kept_set frame) (all_shared_set body)
