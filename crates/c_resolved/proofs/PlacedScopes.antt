-- Where a part names locals that are seen alone, so does the part with its variables where these
-- stand.
use Rattle.std.proofs.Common.{◌≡◌, ◌⊎◌, inl, inr, ℕ, refl, sym, subst}
use Rattle.std.specs.Prelude.{Bool, true, ◌&&◌, List, [], ◌∷◌, Option, Some, None}
use Rattle.c_checked.specs.Expression as nodes
use Rattle.c_checked.specs.Expression.{Expression, On}
use Rattle.c_checked.specs.Statement as checked
use Rattle.c_checked.proofs.ScopeTests.{both_left, both_right, sees_own, after_cases, after_before}
use Rattle.c_resolved.specs.Words.{Node, Lvalue, Arguments, Layout, Place, place_of, variable_at, address_of, array_at, stacked_at, place_expression, place_node, place_lvalue, place_arguments, place_optional, place_declared, place_all_declared, place_filter, place_statement, place_statements, SeenNames, IsPart, expression_within, node_within, lvalue_within, arguments_within, optional_within, stacked_within, with_declared, after_declared, declared_within, after_all_declared, all_declared_within, after_statement, filter_within, statement_within, statements_within}
use Rattle.c_resolved.proofs.Operands.{and_true}

-- a variable is seen where its local is, and on the data stack where the base is
abbrev pub SeenAt : SeenNames → (base x : ℕ) → Option Place → Type 0
SeenAt seen base x None = seen x ≡ true
SeenAt seen base x (Some p) = seen base ≡ true

abbrev pub BaseSeen : SeenNames → ℕ → Option Place → Type 0
BaseSeen seen base None = Unit {0}
BaseSeen seen base (Some p) = seen base ≡ true

-- what the one sees, the other sees where it stands
pub record Follows (l : Layout) (a b : SeenNames) : Type 0 where
  pub seen : (x : ℕ) → a x ≡ true → SeenAt b l.base x (place_of l x)
  pub base : (x : ℕ) → BaseSeen b l.base (place_of l x)

-- ---- expressions

variable_within : (b : SeenNames) (base x : ℕ) (p : Option Place) → SeenAt b base x p
    → lvalue_within b (variable_at base x p) ≡ true
variable_within b base x None h = h
variable_within b base x (Some p) h = h

array_within : (b : SeenNames) (base : ℕ) (p : Option Place) → BaseSeen b base p
    → node_within b (array_at base p) ≡ true
array_within b base None h = refl
array_within b base (Some p) h = h

address_within : (b : SeenNames) (q : Lvalue) → lvalue_within b q ≡ true
    → node_within b (address_of q) ≡ true
address_within b (nodes.Local x) h = refl
address_within b q h = h

both_follow : {x y u v : Bool} → (x ≡ true → u ≡ true) → (y ≡ true → v ≡ true) → (x && y) ≡ true
    → (u && v) ≡ true
both_follow {x} {y} f g h = and_true (f (both_left x y h)) (g (both_right x y h))

module _ (l : Layout) (a b : SeenNames) (r : Follows l a b) where
  mutual
    pub expression_follows : (e : Expression) → expression_within a e ≡ true
        → expression_within b (place_expression l e) ≡ true
    expression_follows (On n c) h = node_follows n h

    node_follows : (n : Node) → node_within a n ≡ true → node_within b (place_node l n) ≡ true
    node_follows (nodes.Constant z n) h = refl
    node_follows (nodes.StackedArray x offset) h = array_within b l.base (place_of l x) (r.base x)
    node_follows (nodes.Read p) h = lvalue_follows p h
    node_follows (nodes.AddressOf p) h = address_within b (place_lvalue l p) (lvalue_follows p h)
    node_follows (nodes.Assign p e) h = and_true
        (lvalue_follows p (both_left (lvalue_within a p) (expression_within a e) h))
        (expression_follows e (both_right (lvalue_within a p) (expression_within a e) h))
    node_follows (nodes.CompoundAssign p before o e after) h = and_true
        (lvalue_follows p (both_left (lvalue_within a p) (expression_within a e) h))
        (expression_follows e (both_right (lvalue_within a p) (expression_within a e) h))
    node_follows (nodes.Increment m p before o n after) h = lvalue_follows p h
    node_follows (nodes.Unary o e) h = expression_follows e h
    node_follows (nodes.Binary o e f) h = both_follow (expression_follows e) (expression_follows f)
        h
    node_follows (nodes.PointerDifference n e f) h = both_follow (expression_follows e)
        (expression_follows f) h
    node_follows (nodes.Not e) h = expression_follows e h
    node_follows (nodes.And e f) h = both_follow (expression_follows e) (expression_follows f) h
    node_follows (nodes.Or e f) h = both_follow (expression_follows e) (expression_follows f) h
    node_follows (nodes.Conditional c e f) h = and_true
        (both_follow (expression_follows c) (expression_follows e)
        (both_left (expression_within a c && expression_within a e) (expression_within a f) h))
        (expression_follows f (both_right (expression_within a c && expression_within a e)
        (expression_within a f) h))
    node_follows (nodes.Comma e f) h = both_follow (expression_follows e) (expression_follows f) h
    node_follows (nodes.Call f es) h = arguments_follow es h
    node_follows (nodes.CallBuiltIn k es) h = arguments_follow es h
    node_follows nodes.ExceptionCode h = refl
    node_follows (nodes.Information f) h = refl
    node_follows nodes.AbnormalTermination h = refl

    lvalue_follows : (p : Lvalue) → lvalue_within a p ≡ true
        → lvalue_within b (place_lvalue l p) ≡ true
    lvalue_follows (nodes.Local x) h = variable_within b l.base x (place_of l x) (r.seen x h)
    lvalue_follows (nodes.Global access n) h = refl
    lvalue_follows (nodes.Stacked access x offset) h = variable_within b l.base x (place_of l x)
        (r.seen x h)
    lvalue_follows (nodes.Indirection access e) h = expression_follows e h
    lvalue_follows (nodes.Element access e i) h = both_follow (expression_follows e)
        (expression_follows i) h

    arguments_follow : (es : Arguments) → arguments_within a es ≡ true
        → arguments_within b (place_arguments l es) ≡ true
    arguments_follow nodes.Done h = refl
    arguments_follow (nodes.Next e es) h = and_true
        (expression_follows e (both_left (expression_within a e) (arguments_within a es) h))
        (arguments_follow es (both_right (expression_within a e) (arguments_within a es) h))

  pub optional_follows : (e : Option Expression) → optional_within a e ≡ true
      → optional_within b (place_optional l e) ≡ true
  optional_follows None h = refl
  optional_follows (Some e) h = expression_follows e h

  pub filter_follows : (f : checked.Filter) → filter_within a f ≡ true
      → filter_within b (place_filter l f) ≡ true
  filter_follows checked.Always h = refl
  filter_follows (checked.Funclet k e) h = expression_follows e h

-- ---- what is declared

seen_wider : (b c : SeenNames) → IsPart b c → (base x : ℕ) (p : Option Place) → SeenAt b base x p
    → SeenAt c base x p
seen_wider b c part base x None h = part x h
seen_wider b c part base x (Some p) h = part base h

base_wider : (b c : SeenNames) → IsPart b c → (base : ℕ) (p : Option Place) → BaseSeen b base p
    → BaseSeen c base p
base_wider b c part base None h = tt
base_wider b c part base (Some p) h = part base h

own_seen : (b : SeenNames) (base x : ℕ) (p : Option Place) → BaseSeen b base p
    → SeenAt (with_declared (stacked_at base p) x b) base x p
own_seen b base x None h = sees_own b x
own_seen b base x (Some p) h = h

stacked_seen : (b : SeenNames) (base : ℕ) (p : Option Place) → BaseSeen b base p
    → stacked_within b (stacked_at base p) ≡ true
stacked_seen b base None h = refl
stacked_seen b base (Some p) h = h

declared_follows : (l : Layout) (a b : SeenNames) → Follows l a b → (d : checked.Declared)
    → Follows l (after_declared a d) (after_declared b (place_declared l d))
declared_follows l a b r d =
    let c = after_declared b (place_declared l d) in
    let part : IsPart b c = after_before b (place_declared l d) in
    record {
      seen = λ x h. of x (after_cases a d x h);
      base = λ x. base_wider b c part l.base (place_of l x) (r.base x);
    }
  where
    c : SeenNames
    c = after_declared b (place_declared l d)

    of : (x : ℕ) → (x ≡ d.local) ⊎ (a x ≡ true) → SeenAt c l.base x (place_of l x)
    of x (inl e) = subst (λ y. SeenAt c l.base y (place_of l y)) (sym e)
        (own_seen b l.base d.local (place_of l d.local) (r.base d.local))
    of x (inr e) = seen_wider b c (after_before b (place_declared l d)) l.base x (place_of l x)
        (r.seen x e)

declared_within_follows : (l : Layout) (a b : SeenNames) → Follows l a b → (d : checked.Declared)
    → declared_within a d ≡ true → declared_within b (place_declared l d) ≡ true
declared_within_follows l a b r d h = and_true
    (stacked_seen b l.base (place_of l d.local) (r.base d.local))
    (optional_follows l (after_declared a d) (after_declared b (place_declared l d))
    (declared_follows l a b r d) d.value
    (both_right (stacked_within a d.stacked) (optional_within (after_declared a d) d.value) h))

all_declared_follow : (l : Layout) (a b : SeenNames) → Follows l a b → (ds : List checked.Declared)
    → Follows l (after_all_declared a ds) (after_all_declared b (place_all_declared l ds))
all_declared_follow l a b r [] = r
all_declared_follow l a b r (d ∷ ds) = all_declared_follow l (after_declared a d)
    (after_declared b (place_declared l d)) (declared_follows l a b r d) ds

all_within_follow : (l : Layout) (a b : SeenNames) → Follows l a b → (ds : List checked.Declared)
    → all_declared_within a ds ≡ true → all_declared_within b (place_all_declared l ds) ≡ true
all_within_follow l a b r [] h = refl
all_within_follow l a b r (d ∷ ds) h =
    let rest = all_declared_within (after_declared a d) ds in
    and_true (declared_within_follows l a b r d (both_left (declared_within a d) rest h))
    (all_within_follow l (after_declared a d) (after_declared b (place_declared l d))
    (declared_follows l a b r d) ds (both_right (declared_within a d) rest h))

statement_declares : (l : Layout) (a b : SeenNames) → Follows l a b → (s : checked.Statement)
    → Follows l (after_statement a s) (after_statement b (place_statement l s))
statement_declares l a b r (checked.Declare d) = declared_follows l a b r d
statement_declares l a b r other = r

-- ---- statements

mutual
  pub statement_follows : (l : Layout) (a b : SeenNames) → Follows l a b → (s : checked.Statement)
      → statement_within a s ≡ true → statement_within b (place_statement l s) ≡ true
  statement_follows l a b r (checked.Declare d) h = declared_within_follows l a b r d h
  statement_follows l a b r (checked.Block ss) h = statements_follow l a b r ss h
  statement_follows l a b r (checked.Evaluate e) h = optional_follows l a b r e h
  statement_follows l a b r (checked.If c s) h = and_true
      (expression_follows l a b r c (both_left (expression_within a c) (statement_within a s) h))
      (statement_follows l a b r s (both_right (expression_within a c) (statement_within a s) h))
  statement_follows l a b r (checked.IfElse c s t) h =
      let first = both_left (expression_within a c && statement_within a s)
      (statement_within a t) h in
      and_true
      (and_true
      (expression_follows l a b r c (both_left (expression_within a c) (statement_within a s)
      first))
      (statement_follows l a b r s (both_right (expression_within a c) (statement_within a s)
      first)))
      (statement_follows l a b r t (both_right (expression_within a c && statement_within a s)
      (statement_within a t) h))
  statement_follows l a b r (checked.For ds first c next s) h =
      let a1 = after_all_declared a ds in
      let b1 = after_all_declared b (place_all_declared l ds) in
      let r1 = all_declared_follow l a b r ds in
      let p1 = all_declared_within a ds in
      let p2 = optional_within a1 first in
      let p3 = optional_within a1 c in
      let p4 = optional_within a1 next in
      let p5 = statement_within a1 s in
      let h4 = both_left (p1 && p2 && p3 && p4) p5 h in
      let h3 = both_left (p1 && p2 && p3) p4 h4 in
      let h2 = both_left (p1 && p2) p3 h3 in
      and_true
      (and_true
      (and_true
      (and_true (all_within_follow l a b r ds (both_left p1 p2 h2))
      (optional_follows l a1 b1 r1 first (both_right p1 p2 h2)))
      (optional_follows l a1 b1 r1 c (both_right (p1 && p2) p3 h3)))
      (optional_follows l a1 b1 r1 next (both_right (p1 && p2 && p3) p4 h4)))
      (statement_follows l a1 b1 r1 s (both_right (p1 && p2 && p3 && p4) p5 h))
  statement_follows l a b r (checked.DoWhile s c) h = and_true
      (expression_follows l a b r c (both_left (expression_within a c) (statement_within a s) h))
      (statement_follows l a b r s (both_right (expression_within a c) (statement_within a s) h))
  statement_follows l a b r (checked.Return e) h = optional_follows l a b r e h
  statement_follows l a b r checked.Break h = refl
  statement_follows l a b r checked.Continue h = refl
  statement_follows l a b r checked.Leave h = refl
  statement_follows l a b r (checked.TryExcept body filter block) h =
      let p1 = statements_within a body in
      let p2 = filter_within a filter in
      let p3 = statements_within a block in
      let h2 = both_left (p1 && p2) p3 h in
      and_true
      (and_true (statements_follow l a b r body (both_left p1 p2 h2))
      (filter_follows l a b r filter (both_right p1 p2 h2)))
      (statements_follow l a b r block (both_right (p1 && p2) p3 h))
  statement_follows l a b r (checked.TryFinally body k last) h = and_true
      (statements_follow l a b r body (both_left (statements_within a body)
      (statements_within a last) h))
      (statements_follow l a b r last (both_right (statements_within a body)
      (statements_within a last) h))

  pub statements_follow : (l : Layout) (a b : SeenNames) → Follows l a b
      → (ss : checked.Statements) → statements_within a ss ≡ true
      → statements_within b (place_statements l ss) ≡ true
  statements_follow l a b r checked.Empty h = refl
  statements_follow l a b r (checked.Then s ss) h =
      let rest = statements_within (after_statement a s) ss in
      and_true (statement_follows l a b r s (both_left (statement_within a s) rest h))
      (statements_follow l (after_statement a s) (after_statement b (place_statement l s))
      (statement_declares l a b r s) ss (both_right (statement_within a s) rest h))
