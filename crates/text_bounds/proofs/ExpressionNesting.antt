-- An expression is resolved to one that is nested no deeper.
use Rattle.std.proofs.Common.{◌≡◌, ℕ, ◌+◌, ◌≤◌, max, refl, sym, subst, arith}
use Rattle.std.proofs.lemmas.Bool.{leb-true}
use Rattle.std.specs.Prelude.{Bool, true, false, nat_le, nat_eq, if◌then◌else◌, List, [], ◌∷◌, length, map, Option, Some, None}
use Rattle.c_checked.specs.Expression as nodes
use Rattle.text_bounds.specs.Words.{Node, CType, Field, Literal, Arithmetic, start, height, Fault, TypedNode, compound_assigned, assigned, comma_of, Entity, LocalVariable, LocalArray, GlobalVariable, GlobalArray, UserFunction, BuiltInFunction, CodeFunction, AbnormalFunction, AddingFunction, RemovingFunction, BuiltInConstant, Names, FaultAt, ResolvedExpression, ruled, rule_1, rule_2, rule_3, given_that, literal, name, field, Wanted, built_in_wants, fits, passed, Argument, Passed, before, spoiled, pass, pass_all, called, call_with, handler_after, call_naming, call_with_handler, unsigned, only_where, call, changed, resolve_expression, resolve_arguments, OfType, ZeroLiteral, expression_nesting, node_nesting, expression_reads, node_reads, heights, plain, typed, good, arguments_nesting, arguments_read}
use Rattle.c_operations.specs.declared.field.Field.TheVariants as fields
use Rattle.c_syntax.specs.declared.expression.Base.TheVariants.{UnsignedLongLong}
use Rattle.c_syntax.specs.declared.expression.Field.TheVariants as record_fields
use Rattle.c_syntax.specs.declared.expression.Literal.TheVariants as literals
use Rattle.c_operations.specs.declared.built_in.BuiltIn.{BuiltIn}
use Rattle.c_operations.specs.declared.built_in.BuiltIn.TheVariants.{AddVectored, RemoveVectored}
use Rattle.c_syntax.specs.Expression as trees
use Rattle.c_syntax.specs.Expression.{Expression}
use Rattle.c_resolved.specs.declared.fault.Fault.TheVariants.{TypeClash}
use Rattle.text_bounds.proofs.OperatorNesting.{nesting, reads, IsShallowIn, ShallowIf, deeper, binary_shallow, element_shallow, assigned_shallow, compound_shallow, comma_shallow, incremented_shallow, unary_shallow, cast_shallow, conditional_shallow}

-- ---- rules

ruled_shallow : (n at : ℕ) (f : Fault) (fs : List FaultAt) (o : Option TypedNode) → ShallowIf n o
    → ShallowIf n (ruled at f fs o).found
ruled_shallow n at f fs None h = tt
ruled_shallow n at f fs (Some t) h = h

given_that_shallow : (n : ℕ) (b : Bool) (at : ℕ) (f : Fault) (fs : List FaultAt)
    (j : ResolvedExpression) → ShallowIf n j.found → ShallowIf n (given_that b at f fs j).found
given_that_shallow n true at f fs j h = h
given_that_shallow n false at f fs j h = tt

only_where_shallow : (n : ℕ) (b : Bool) (at : ℕ) (f : Fault) (r : ResolvedExpression)
    → ShallowIf n r.found → ShallowIf n (only_where b at f r).found
only_where_shallow n b at f r h = given_that_shallow n b at f r.faults r h

-- where it holds only where the test does
where_shallow : (n : ℕ) (b : Bool) (at : ℕ) (f : Fault) (fs : List FaultAt) (j : ResolvedExpression)
    → (b ≡ true → ShallowIf n j.found) → ShallowIf n (given_that b at f fs j).found
where_shallow n true at f fs j h = h refl
where_shallow n false at f fs j h = tt

rule_1_shallow : (m n at : ℕ) (rule : TypedNode → Option TypedNode) (fs : List FaultAt)
    (o : Option TypedNode) → ShallowIf m o → ((a : TypedNode) → IsShallowIn m a
    → ShallowIf n (rule a)) → ShallowIf n (rule_1 at rule fs o).found
rule_1_shallow m n at rule fs None h go = tt
rule_1_shallow m n at rule fs (Some a) h go = ruled_shallow n at TypeClash fs (rule a) (go a h)

rule_2_shallow : (k m n at : ℕ) (rule : TypedNode → TypedNode → Option TypedNode)
    (fs : List FaultAt) (o q : Option TypedNode) → ShallowIf k o → ShallowIf m q
    → ((a b : TypedNode) → IsShallowIn k a → IsShallowIn m b → ShallowIf n (rule a b))
    → ShallowIf n (rule_2 at rule fs o q).found
rule_2_shallow k m n at rule fs None q h h' go = tt
rule_2_shallow k m n at rule fs (Some a) q h h' go = rule_1_shallow m n at (rule a) fs q h'
    (λ b l. go a b h l)

rule_3_shallow : (i k m n at : ℕ) (rule : TypedNode → TypedNode → TypedNode → Option TypedNode)
    (fs : List FaultAt) (o q r : Option TypedNode) → ShallowIf i o → ShallowIf k q → ShallowIf m r
    → ((c a b : TypedNode) → IsShallowIn i c → IsShallowIn k a → IsShallowIn m b
    → ShallowIf n (rule c a b)) → ShallowIf n (rule_3 at rule fs o q r).found
rule_3_shallow i k m n at rule fs None q r h h' h'' go = tt
rule_3_shallow i k m n at rule fs (Some c) q r h h' h'' go = rule_2_shallow k m n at (rule c) fs q r
    h' h'' (λ a b l l'. go c a b h l l')

-- ---- what has no parts

literal_shallow : (l : Literal) → IsShallowIn 0 (literal l)
literal_shallow (literals.Integer n of) = (omega arith, omega arith)
literal_shallow (literals.CharacterConstant c) = (omega arith, omega arith)

name_shallow : (at : ℕ) (e : Option Entity) → ShallowIf 0 (name at e).found
name_shallow at (Some (LocalVariable x t)) = (omega arith, omega arith)
name_shallow at (Some (LocalArray x t)) = (omega arith, omega arith)
name_shallow at (Some (GlobalVariable a t)) = (omega arith, omega arith)
name_shallow at (Some (GlobalArray a t)) = (omega arith, omega arith)
name_shallow at (Some (BuiltInConstant n)) = (omega arith, omega arith)
name_shallow at other = tt

field_shallow : (f : Field) → ShallowIf 0 (field f).found
field_shallow record_fields.Code = (omega arith, omega arith)
field_shallow record_fields.Flags = (omega arith, omega arith)
field_shallow record_fields.Count = (omega arith, omega arith)
field_shallow (record_fields.Information k at) = where_shallow 0 (nat_le k 14) at TypeClash []
    (good (typed (plain UnsignedLongLong) (nodes.Information (fields.ExceptionInformation k))))
    (λ e. let le = leb-true k 14 e in (omega arith, omega arith))

-- ---- calls

abbrev AreShallow : ℕ → Option nodes.Arguments → Type 0
AreShallow n None = Unit {0}
AreShallow n (Some es) = (arguments_nesting es ≤ n) × (arguments_read es ≤ 15)

-- whatever is wanted of arguments, those that are passed are nested no deeper
abbrev ArgumentsShallow : ℕ → List Argument → Type 0
ArgumentsShallow n args = (ws : List Wanted) → AreShallow n (pass_all ws args).found

before_shallow : (m n : ℕ) (fs : List FaultAt) (e : nodes.Expression) (o : Option nodes.Arguments)
    (gs : List FaultAt) → 1 + expression_nesting e ≤ n → expression_reads e ≤ 15 → AreShallow n o
    → AreShallow n (before fs e (record { found = o; faults = gs })).found
before_shallow m n fs e None gs le r h = tt
before_shallow m n fs e (Some es) gs le r h = let p = h.0 in let q = h.1 in
    (omega arith, omega arith)

passed_nesting : (w : Wanted) (a : TypedNode) → expression_nesting (passed w a) ≡ nesting a
passed_nesting (OfType t) a = refl
passed_nesting ZeroLiteral a = refl

passed_reads : (w : Wanted) (a : TypedNode) → expression_reads (passed w a) ≡ reads a
passed_reads (OfType t) a = refl
passed_reads ZeroLiteral a = refl

fit_shallow : (n : ℕ) (b : Bool) (x y : Passed) → AreShallow n x.found → y.found ≡ None
    → AreShallow n (if b then x else y).found
fit_shallow n true x y h e = h
fit_shallow n false x y h e = subst (λ o. AreShallow n o) (sym e) tt

pass_shallow : (w : Wanted) (at m n : ℕ) (fs : List FaultAt) (o : Option TypedNode) (rest : Passed)
    → ShallowIf m o → 1 + m ≤ n → AreShallow n rest.found → AreShallow n (pass w at fs o rest).found
pass_shallow w at m n fs None rest h le l = tt
pass_shallow w at m n fs (Some a) rest h le l =
    let e = passed_nesting w a in
    let f = passed_reads w a in
    let p = h.0 in
    let q = h.1 in
    fit_shallow n (fits w a) (before fs (passed w a) rest) (spoiled _ rest)
    (before_shallow m n fs (passed w a) rest.found rest.faults (omega arith) (omega arith) l) refl

called_shallow : (n : ℕ) (t : CType) (make : nodes.Arguments → Node) (o : Option nodes.Arguments)
    (fs : List FaultAt) → AreShallow n o
    → ((es : nodes.Arguments) → (node_nesting (make es) ≤ arguments_nesting es)
    × (node_reads (make es) ≤ arguments_read es))
    → ShallowIf n (called t make (record { found = o; faults = fs })).found
called_shallow n t make None fs h go = tt
called_shallow n t make (Some es) fs h go = let g = (go es).0 in let k = (go es).1 in let p = h.0 in
    let q = h.1 in (omega arith, omega arith)

with_shallow : (n at : ℕ) (ws : List Wanted) (t : CType) (make : nodes.Arguments → Node)
    (args : List Argument) → ArgumentsShallow n args
    → ((es : nodes.Arguments) → (node_nesting (make es) ≤ arguments_nesting es)
    × (node_reads (make es) ≤ arguments_read es)) → ShallowIf n (call_with at ws t make args).found
with_shallow n at ws t make args h go = given_that_shallow n (nat_eq (length ws) (length args)) at _
    _ _ (called_shallow n t make (pass_all ws args).found (pass_all ws args).faults (h ws) go)

-- the same of a call that names a vectored handler
naming_shallow : (n : ℕ) (make : ℕ → nodes.Arguments → Node) (o : Option nodes.Arguments)
    (fs : List FaultAt) (f : Option ℕ) (gs : List FaultAt) → AreShallow n o
    → ((k : ℕ) (es : nodes.Arguments) → (node_nesting (make k es) ≤ arguments_nesting es)
    × (node_reads (make k es) ≤ arguments_read es))
    → ShallowIf n (call_naming make (record { found = o; faults = fs })
    (record { found = f; faults = gs })).found
naming_shallow n make None fs f gs h go = tt
naming_shallow n make (Some es) fs None gs h go = tt
naming_shallow n make (Some es) fs (Some k) gs h go =
    let g = go k es in
    let u = g.0 in
    let v = g.1 in
    let p = h.0 in
    let q = h.1 in
    (omega arith, omega arith)

with_handler_shallow : (n at : ℕ) (ws : List Wanted) (of : ℕ → BuiltIn) (args : List Argument)
    → ArgumentsShallow n args → ShallowIf n (call_with_handler at ws of args).found
with_handler_shallow n at ws of args h =
    given_that_shallow n (nat_eq (length ws + 1) (length args)) at _ _ _
    (naming_shallow n (λ f. nodes.CallBuiltIn (of f)) (pass_all ws args).found
    (pass_all ws args).faults (handler_after ws args).found (handler_after ws args).faults (h ws)
    (λ k es. (omega arith, omega arith)))

call_shallow : (s : Names) (n at : ℕ) (e : Option Entity) (args : List Argument)
    → ArgumentsShallow n args → ShallowIf n (call s at e args).found
call_shallow s n at (Some (UserFunction f t ps)) args h = with_shallow n at (map OfType ps) t
    (nodes.Call f) args h (λ es. (omega arith, omega arith))
call_shallow s n at (Some (BuiltInFunction k)) args h = with_shallow n at (built_in_wants k) _
    (nodes.CallBuiltIn k) args h (λ es. (omega arith, omega arith))
call_shallow s n at (Some CodeFunction) args h = only_where_shallow n s.code at _ _
    (with_shallow n at [] _ (λ es. nodes.ExceptionCode) args h (λ es. (omega arith, omega arith)))
call_shallow s n at (Some AbnormalFunction) args h = only_where_shallow n s.abnormal at _ _
    (with_shallow n at [] _ (λ es. nodes.AbnormalTermination) args h
    (λ es. (omega arith, omega arith)))
call_shallow s n at (Some AddingFunction) args h =
    with_handler_shallow n at (OfType unsigned ∷ []) (λ f. AddVectored f) args h
call_shallow s n at (Some RemovingFunction) args h =
    with_handler_shallow n at [] (λ f. RemoveVectored f) args h
call_shallow s n at other args h = tt

all_deeper : (m n : ℕ) (o : Option nodes.Arguments) → m ≤ n → AreShallow m o → AreShallow n o
all_deeper m n None le h = tt
all_deeper m n (Some es) le h = let p = h.0 in (omega arith, h.1)

-- ---- expressions

changed_shallow : (o : Option Arithmetic) (at value_at k m : ℕ) (a b : ResolvedExpression)
    → ShallowIf k a.found → ShallowIf m b.found
    → ShallowIf (1 + max k m) (changed o at value_at a b).found
changed_shallow None at value_at k m a b h l =
    rule_2_shallow k m (1 + max k m) value_at assigned _ a.found b.found h l
    (λ x y p q. let u = p.0 in let v = q.0 in
    assigned_shallow (1 + max k m) x y (omega arith) (omega arith) p.1 q.1)
changed_shallow (Some o) at value_at k m a b h l =
    rule_2_shallow k m (1 + max k m) at (compound_assigned o) _ a.found b.found h l
    (λ x y p q. let u = p.0 in let v = q.0 in
    compound_shallow (1 + max k m) x y (omega arith) (omega arith) p.1 q.1 o)

mutual
  pub resolved_shallow : (s : Names) (e : Expression)
      → ShallowIf (height e) (resolve_expression s e).found
  resolved_shallow s (trees.Constant at l) = literal_shallow l
  resolved_shallow s (trees.Variable n) = name_shallow n.start (s.entity n)
  resolved_shallow s (trees.Information at f) = given_that_shallow 0 s.information at _ [] (field f)
      (field_shallow f)
  resolved_shallow s (trees.Call n es) = call_shallow s (heights es) n.start (s.entity n)
      (resolve_arguments s es) (arguments_shallow s es)
  resolved_shallow s (trees.Parentheses at e) = deeper (height e) (1 + height e)
      (resolve_expression s e).found (omega arith) (resolved_shallow s e)
  resolved_shallow s (trees.Index a at i) =
      let k = height a in
      let m = height i in
      rule_2_shallow k m (1 + max k m) at _ _ (resolve_expression s a).found
      (resolve_expression s i).found (resolved_shallow s a) (resolved_shallow s i)
      (λ x y p q. let u = p.0 in let v = q.0 in
      element_shallow (1 + max k m) x y (omega arith) (omega arith) p.1 q.1)
  resolved_shallow s (trees.Postfix e o at) =
      let n = height e in
      given_that_shallow (1 + n) _ (start e) _ _ _
      (rule_1_shallow n (1 + n) at _ _ (resolve_expression s e).found (resolved_shallow s e)
      (λ x p. let u = p.0 in incremented_shallow (1 + n) x (omega arith) p.1 _ o))
  resolved_shallow s (trees.Prefix at o e) =
      let n = height e in
      given_that_shallow (1 + n) _ (start e) _ _ _
      (rule_1_shallow n (1 + n) at _ _ (resolve_expression s e).found (resolved_shallow s e)
      (λ x p. let u = p.0 in incremented_shallow (1 + n) x (omega arith) p.1 _ o))
  resolved_shallow s (trees.Unary at o e) =
      let n = height e in
      given_that_shallow (1 + n) _ (start e) _ _ _
      (rule_1_shallow n (1 + n) at _ _ (resolve_expression s e).found (resolved_shallow s e)
      (λ x p. let u = p.0 in unary_shallow (1 + n) x (omega arith) p.1 o))
  resolved_shallow s (trees.Cast at t e) =
      let n = height e in
      rule_1_shallow n (1 + n) at _ _ (resolve_expression s e).found (resolved_shallow s e)
      (λ x p. let u = p.0 in cast_shallow (1 + n) x (omega arith) p.1 t)
  resolved_shallow s (trees.Binary a at o b) =
      let k = height a in
      let m = height b in
      rule_2_shallow k m (1 + max k m) at _ _ (resolve_expression s a).found
      (resolve_expression s b).found (resolved_shallow s a) (resolved_shallow s b)
      (λ x y p q. let u = p.0 in let v = q.0 in
      binary_shallow (1 + max k m) x y (omega arith) (omega arith) p.1 q.1 o)
  resolved_shallow s (trees.Conditional c at a b) =
      let i = height c in
      let k = height a in
      let m = height b in
      rule_3_shallow i k m (1 + max i (max k m)) at _ _ (resolve_expression s c).found
      (resolve_expression s a).found (resolve_expression s b).found (resolved_shallow s c)
      (resolved_shallow s a) (resolved_shallow s b)
      (λ z x y p q r. let u = p.0 in let v = q.0 in let w = r.0 in
      conditional_shallow (1 + max i (max k m)) z x y (omega arith) (omega arith) (omega arith)
      p.1 q.1 r.1)
  resolved_shallow s (trees.Assign a at o b) =
      let k = height a in
      let m = height b in
      given_that_shallow (1 + max k m) _ (start a) _ _ _
      (changed_shallow o at (start b) k m (resolve_expression s a) (resolve_expression s b)
      (resolved_shallow s a) (resolved_shallow s b))
  resolved_shallow s (trees.Comma a at b) =
      let k = height a in
      let m = height b in
      rule_2_shallow k m (1 + max k m) at comma_of _ (resolve_expression s a).found
      (resolve_expression s b).found (resolved_shallow s a) (resolved_shallow s b)
      (λ x y p q. let u = p.0 in let v = q.0 in
      comma_shallow (1 + max k m) x y (omega arith) (omega arith) p.1 q.1)

  arguments_shallow : (s : Names) (es : trees.Arguments)
      → ArgumentsShallow (heights es) (resolve_arguments s es)
  arguments_shallow s trees.Done [] = (omega arith, omega arith)
  arguments_shallow s trees.Done (w ∷ ws) = (omega arith, omega arith)
  arguments_shallow s (trees.Next e es) [] = (omega arith, omega arith)
  arguments_shallow s (trees.Next e es) (w ∷ ws) =
      let n = max (1 + height e) (heights es) in
      pass_shallow w (start e) (height e) n (resolve_expression s e).faults
      (resolve_expression s e).found (pass_all ws (resolve_arguments s es)) (resolved_shallow s e)
      (omega arith)
      (all_deeper (heights es) n (pass_all ws (resolve_arguments s es)).found (omega arith)
      (arguments_shallow s es ws))
