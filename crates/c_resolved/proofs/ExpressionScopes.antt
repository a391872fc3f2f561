-- An expression is resolved to one that names locals that are seen alone.
use Rattle.std.proofs.Common.{◌≡◌, ℕ, ◌+◌, refl, sym, subst}
use Rattle.std.specs.Prelude.{Bool, true, false, nat_le, nat_eq, if◌then◌else◌, List, [], ◌∷◌, length, map, Option, Some, None}
use Rattle.c_operations.specs.declared.built_in.BuiltIn.{BuiltIn}
use Rattle.c_operations.specs.declared.built_in.BuiltIn.TheVariants.{AddVectored, RemoveVectored}
use Rattle.c_checked.specs.Expression as nodes
use Rattle.c_resolved.specs.Words.{Node, CType, Field, Literal, Arithmetic, Expression, start, Fault, TypeClash, TypedNode, compound_assigned, assigned, comma_of, Entity, LocalVariable, LocalArray, GlobalVariable, GlobalArray, UserFunction, BuiltInFunction, CodeFunction, AbnormalFunction, AddingFunction, RemovingFunction, handler_after, call_naming, call_with_handler, unsigned, BuiltInConstant, Names, FaultAt, ResolvedExpression, ruled, rule_1, rule_2, rule_3, given_that, literal, name, field, Wanted, built_in_wants, fits, passed, Argument, Passed, before, spoiled, pass, pass_all, called, call_with, call, changed, resolve_expression, resolve_arguments, OfType, ZeroLiteral, SeenNames, expression_within, node_within, arguments_within}
use Rattle.c_syntax.specs.declared.expression.Field.TheVariants as record_fields
use Rattle.c_syntax.specs.declared.expression.Literal.TheVariants as literals
use Rattle.c_syntax.specs.Expression as trees
use Rattle.c_resolved.proofs.Operands.{and_true}
use Rattle.c_resolved.proofs.OperatorScopes.{IsWithin, WithinIf, binary_within, element_within, assigned_within, compound_within, comma_within, incremented_within, unary_within, cast_within, conditional_within}
use Rattle.c_resolved.proofs.NameScopes.{MeaningSeen, NamesSeen}

-- ---- rules

ruled_within : (seen : SeenNames) (at : ℕ) (f : Fault) (fs : List FaultAt) (o : Option TypedNode)
    → WithinIf seen o → WithinIf seen (ruled at f fs o).found
ruled_within seen at f fs None h = tt
ruled_within seen at f fs (Some t) h = h

given_that_within : (seen : SeenNames) (b : Bool) (at : ℕ) (f : Fault) (fs : List FaultAt)
    (j : ResolvedExpression) → WithinIf seen j.found → WithinIf seen (given_that b at f fs j).found
given_that_within seen true at f fs j h = h
given_that_within seen false at f fs j h = tt

rule_1_within : (seen : SeenNames) (at : ℕ) (rule : TypedNode → Option TypedNode)
    (fs : List FaultAt) (o : Option TypedNode) → WithinIf seen o
    → ((a : TypedNode) → IsWithin seen a → WithinIf seen (rule a))
    → WithinIf seen (rule_1 at rule fs o).found
rule_1_within seen at rule fs None h go = tt
rule_1_within seen at rule fs (Some a) h go = ruled_within seen at TypeClash fs (rule a) (go a h)

rule_2_within : (seen : SeenNames) (at : ℕ) (rule : TypedNode → TypedNode → Option TypedNode)
    (fs : List FaultAt) (o q : Option TypedNode) → WithinIf seen o → WithinIf seen q
    → ((a b : TypedNode) → IsWithin seen a → IsWithin seen b → WithinIf seen (rule a b))
    → WithinIf seen (rule_2 at rule fs o q).found
rule_2_within seen at rule fs None q h k go = tt
rule_2_within seen at rule fs (Some a) q h k go = rule_1_within seen at (rule a) fs q k
    (λ b l. go a b h l)

rule_3_within : (seen : SeenNames) (at : ℕ) (rule : TypedNode → TypedNode → TypedNode
    → Option TypedNode) (fs : List FaultAt) (o q r : Option TypedNode) → WithinIf seen o
    → WithinIf seen q → WithinIf seen r
    → ((c a b : TypedNode) → IsWithin seen c → IsWithin seen a → IsWithin seen b
    → WithinIf seen (rule c a b)) → WithinIf seen (rule_3 at rule fs o q r).found
rule_3_within seen at rule fs None q r h k l go = tt
rule_3_within seen at rule fs (Some c) q r h k l go = rule_2_within seen at (rule c) fs q r k l
    (λ a b m n. go c a b h m n)

-- ---- what has no parts

literal_within : (seen : SeenNames) (l : Literal) → IsWithin seen (literal l)
literal_within seen (literals.Integer n of) = refl
literal_within seen (literals.CharacterConstant c) = refl

name_within : (seen : SeenNames) (at : ℕ) (e : Option Entity) → MeaningSeen seen e
    → WithinIf seen (name at e).found
name_within seen at (Some (LocalVariable x t)) h = h
name_within seen at (Some (LocalArray x t)) h = h
name_within seen at (Some (GlobalVariable a t)) h = refl
name_within seen at (Some (GlobalArray a t)) h = refl
name_within seen at (Some (BuiltInConstant n)) h = refl
name_within seen at other h = tt

field_within : (seen : SeenNames) (f : Field) → WithinIf seen (field f).found
field_within seen record_fields.Code = refl
field_within seen record_fields.Flags = refl
field_within seen record_fields.Count = refl
field_within seen (record_fields.Information k at) = given_that_within seen (nat_le k 14) at
    TypeClash [] _ refl

-- ---- calls

abbrev AreWithin : SeenNames → Option nodes.Arguments → Type 0
AreWithin seen None = Unit {0}
AreWithin seen (Some es) = arguments_within seen es ≡ true

abbrev EachWithin : SeenNames → List Argument → Type 0
EachWithin seen [] = Unit {0}
EachWithin seen (a ∷ more) = WithinIf seen a.resolved.found × EachWithin seen more

before_within : (seen : SeenNames) (fs : List FaultAt) (e : nodes.Expression)
    (o : Option nodes.Arguments) (gs : List FaultAt) → expression_within seen e ≡ true
    → AreWithin seen o → AreWithin seen (before fs e (record { found = o; faults = gs })).found
before_within seen fs e None gs h k = tt
before_within seen fs e (Some es) gs h k = and_true h k

passed_within : (seen : SeenNames) (w : Wanted) (a : TypedNode) → IsWithin seen a
    → expression_within seen (passed w a) ≡ true
passed_within seen (OfType t) a h = h
passed_within seen ZeroLiteral a h = h

fit_within : (seen : SeenNames) (b : Bool) (x y : Passed) → AreWithin seen x.found → y.found ≡ None
    → AreWithin seen (if b then x else y).found
fit_within seen true x y h e = h
fit_within seen false x y h e = subst (λ o. AreWithin seen o) (sym e) tt

pass_within : (seen : SeenNames) (w : Wanted) (at : ℕ) (fs : List FaultAt) (o : Option TypedNode)
    (rest : Passed) → WithinIf seen o → AreWithin seen rest.found
    → AreWithin seen (pass w at fs o rest).found
pass_within seen w at fs None rest h k = tt
pass_within seen w at fs (Some a) rest h k = fit_within seen (fits w a)
    (before fs (passed w a) rest) (spoiled _ rest)
    (before_within seen fs (passed w a) rest.found rest.faults (passed_within seen w a h) k) refl

pass_all_within : (seen : SeenNames) (ws : List Wanted) (args : List Argument)
    → EachWithin seen args → AreWithin seen (pass_all ws args).found
pass_all_within seen (w ∷ ws) (a ∷ more) h = pass_within seen w a.at a.resolved.faults
    a.resolved.found (pass_all ws more) h.0 (pass_all_within seen ws more h.1)
pass_all_within seen [] [] h = refl
pass_all_within seen [] (a ∷ more) h = refl
pass_all_within seen (w ∷ ws) [] h = refl

called_within : (seen : SeenNames) (t : CType) (make : nodes.Arguments → Node)
    (o : Option nodes.Arguments) (fs : List FaultAt) → AreWithin seen o
    → ((es : nodes.Arguments) → arguments_within seen es ≡ true → node_within seen (make es) ≡ true)
    → WithinIf seen (called t make (record { found = o; faults = fs })).found
called_within seen t make None fs h go = tt
called_within seen t make (Some es) fs h go = go es h

with_within : (seen : SeenNames) (at : ℕ) (ws : List Wanted) (t : CType)
    (make : nodes.Arguments → Node) (args : List Argument) → EachWithin seen args
    → ((es : nodes.Arguments) → arguments_within seen es ≡ true → node_within seen (make es) ≡ true)
    → WithinIf seen (call_with at ws t make args).found
with_within seen at ws t make args h go =
    given_that_within seen (nat_eq (length ws) (length args)) at _ _ _
    (called_within seen t make (pass_all ws args).found (pass_all ws args).faults
    (pass_all_within seen ws args h) go)

named_within : (seen : SeenNames) (of : ℕ → BuiltIn) (o : Option nodes.Arguments)
    (fs : List FaultAt) (h : Option ℕ) (gs : List FaultAt) → AreWithin seen o
    → WithinIf seen (call_naming (λ f. nodes.CallBuiltIn (of f))
    (record { found = o; faults = fs }) (record { found = h; faults = gs })).found
named_within seen of None fs h gs k = tt
named_within seen of (Some es) fs None gs k = tt
named_within seen of (Some es) fs (Some f) gs k = k

naming_within : (seen : SeenNames) (at : ℕ) (ws : List Wanted) (of : ℕ → BuiltIn)
    (args : List Argument) → EachWithin seen args
    → WithinIf seen (call_with_handler at ws of args).found
naming_within seen at ws of args h =
    given_that_within seen (nat_eq (length ws + 1) (length args)) at _ _ _
    (named_within seen of (pass_all ws args).found (pass_all ws args).faults
    (handler_after ws args).found (handler_after ws args).faults
    (pass_all_within seen ws args h))

call_within : (seen : SeenNames) (s : Names) (at : ℕ) (e : Option Entity) (args : List Argument)
    → EachWithin seen args → WithinIf seen (call s at e args).found
call_within seen s at (Some (UserFunction f t ps)) args h = with_within seen at (map OfType ps) t
    (nodes.Call f) args h (λ es k. k)
call_within seen s at (Some (BuiltInFunction k)) args h = with_within seen at (built_in_wants k) _
    (nodes.CallBuiltIn k) args h (λ es k. k)
call_within seen s at (Some CodeFunction) args h = given_that_within seen s.code at _ _ _
    (with_within seen at [] _ (λ es. nodes.ExceptionCode) args h (λ es k. refl))
call_within seen s at (Some AbnormalFunction) args h = given_that_within seen s.abnormal at _ _ _
    (with_within seen at [] _ (λ es. nodes.AbnormalTermination) args h (λ es k. refl))
call_within seen s at (Some AddingFunction) args h = naming_within seen at
    (OfType unsigned ∷ []) (λ f. AddVectored f) args h
call_within seen s at (Some RemovingFunction) args h = naming_within seen at []
    (λ f. RemoveVectored f) args h
call_within seen s at other args h = tt

-- ---- expressions

changed_within : (seen : SeenNames) (o : Option Arithmetic) (at value_at : ℕ)
    (a b : ResolvedExpression) → WithinIf seen a.found → WithinIf seen b.found
    → WithinIf seen (changed o at value_at a b).found
changed_within seen None at value_at a b h k = rule_2_within seen value_at assigned _ a.found
    b.found h k (λ x y p q. assigned_within seen x y p q)
changed_within seen (Some o) at value_at a b h k = rule_2_within seen at (compound_assigned o) _
    a.found b.found h k (λ x y p q. compound_within seen x y p q o)

mutual
  pub resolved_within : (seen : SeenNames) (s : Names) → NamesSeen seen s → (e : Expression)
      → WithinIf seen (resolve_expression s e).found
  resolved_within seen s known (trees.Constant at l) = literal_within seen l
  resolved_within seen s known (trees.Variable n) = name_within seen n.start (s.entity n) (known n)
  resolved_within seen s known (trees.Information at f) = given_that_within seen s.information at _
      [] (field f) (field_within seen f)
  resolved_within seen s known (trees.Call n es) = call_within seen s n.start (s.entity n)
      (resolve_arguments s es) (each_within seen s known es)
  resolved_within seen s known (trees.Parentheses at e) = resolved_within seen s known e
  resolved_within seen s known (trees.Index a at i) =
      rule_2_within seen at _ _ (resolve_expression s a).found (resolve_expression s i).found
      (resolved_within seen s known a) (resolved_within seen s known i)
      (λ x y p q. element_within seen x y p q)
  resolved_within seen s known (trees.Postfix e o at) =
      given_that_within seen _ (start e) _ _ _
      (rule_1_within seen at _ _ (resolve_expression s e).found (resolved_within seen s known e)
      (λ x p. incremented_within seen x p _ o))
  resolved_within seen s known (trees.Prefix at o e) =
      given_that_within seen _ (start e) _ _ _
      (rule_1_within seen at _ _ (resolve_expression s e).found (resolved_within seen s known e)
      (λ x p. incremented_within seen x p _ o))
  resolved_within seen s known (trees.Unary at o e) =
      given_that_within seen _ (start e) _ _ _
      (rule_1_within seen at _ _ (resolve_expression s e).found (resolved_within seen s known e)
      (λ x p. unary_within seen x p o))
  resolved_within seen s known (trees.Cast at t e) = rule_1_within seen at _ _
      (resolve_expression s e).found (resolved_within seen s known e)
      (λ x p. cast_within seen x p t)
  resolved_within seen s known (trees.Binary a at o b) =
      rule_2_within seen at _ _ (resolve_expression s a).found (resolve_expression s b).found
      (resolved_within seen s known a) (resolved_within seen s known b)
      (λ x y p q. binary_within seen x y p q o)
  resolved_within seen s known (trees.Conditional c at a b) =
      rule_3_within seen at _ _ (resolve_expression s c).found (resolve_expression s a).found
      (resolve_expression s b).found
      (resolved_within seen s known c) (resolved_within seen s known a)
      (resolved_within seen s known b) (λ z x y o p q. conditional_within seen z x y o p q)
  resolved_within seen s known (trees.Assign a at o b) =
      given_that_within seen _ (start a) _ _ _
      (changed_within seen o at (start b) (resolve_expression s a) (resolve_expression s b)
      (resolved_within seen s known a) (resolved_within seen s known b))
  resolved_within seen s known (trees.Comma a at b) =
      rule_2_within seen at comma_of _ (resolve_expression s a).found (resolve_expression s b).found
      (resolved_within seen s known a) (resolved_within seen s known b)
      (λ x y p q. comma_within seen x y p q)

  each_within : (seen : SeenNames) (s : Names) → NamesSeen seen s → (es : trees.Arguments)
      → EachWithin seen (resolve_arguments s es)
  each_within seen s known trees.Done = tt
  each_within seen s known (trees.Next e es) =
      (resolved_within seen s known e, each_within seen s known es)
