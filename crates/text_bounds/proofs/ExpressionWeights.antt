-- An expression is resolved to one that weighs at most so much for each of its nodes.
use Rattle.std.proofs.Common.{◌≡◌, ℕ, ◌+◌, ◌*◌, ◌≤◌, refl, sym, subst, arith}
use Rattle.std.proofs.Math.Nat.{mul-add, mul-one}
use Rattle.std.specs.Prelude.{Bool, true, false, nat_le, nat_eq, if◌then◌else◌, List, [], ◌∷◌, length, map, Option, Some, None}
use Rattle.text_bounds.specs.Words.{Node, CType, Field, Literal, Arithmetic, start, Fault, access_of, TypedNode, int, compound_assigned, assigned, comma_of, Entity, LocalVariable, LocalArray, GlobalVariable, GlobalArray, UserFunction, BuiltInFunction, CodeFunction, AbnormalFunction, AddingFunction, RemovingFunction, BuiltInConstant, Names, FaultAt, ResolvedExpression, ruled, rule_1, rule_2, rule_3, given_that, literal, name, field, Wanted, built_in_wants, fits, passed, Argument, Passed, before, spoiled, pass, pass_all, called, call_with, handler_after, call_naming, call_with_handler, unsigned, only_where, call, changed, resolve_expression, resolve_arguments, OfType, ZeroLiteral, Weights, NodesAdd, nodes_of_arguments}
use Rattle.c_operations.specs.declared.field.Field.{Field as Field'}
use Rattle.c_operations.specs.declared.operation.Size.{Size}
use Rattle.c_checked.specs.Expression as nodes
use Rattle.c_syntax.specs.declared.expression.Field.TheVariants as record_fields
use Rattle.c_syntax.specs.declared.expression.Literal.TheVariants as literals
use Rattle.c_operations.specs.declared.built_in.BuiltIn.{BuiltIn}
use Rattle.c_operations.specs.declared.built_in.BuiltIn.TheVariants.{AddVectored, RemoveVectored}
use Rattle.c_syntax.specs.Expression as trees
use Rattle.c_syntax.specs.Expression.{Expression}
use Rattle.c_syntax.specs.Nodes as counted
use Rattle.text_bounds.proofs.Times.{times_1, times_2, times_3}
use Rattle.text_bounds.proofs.OperatorWeights.{weight, LightIf, lighter, typed_weight, binary_light, element_light, incremented_light, assigned_light, compound_light, unary_light, cast_light, conditional_light, comma_light}

-- ---- rules

ruled_light : (w : Weights) (n at : ℕ) (f : Fault) (fs : List FaultAt) (o : Option TypedNode)
    → LightIf w n o → LightIf w n (ruled at f fs o).found
ruled_light w n at f fs None h = tt
ruled_light w n at f fs (Some t) h = h

given_that_light : (w : Weights) (n : ℕ) (b : Bool) (at : ℕ) (f : Fault) (fs : List FaultAt)
    (j : ResolvedExpression) → LightIf w n j.found → LightIf w n (given_that b at f fs j).found
given_that_light w n true at f fs j h = h
given_that_light w n false at f fs j h = tt

only_where_light : (w : Weights) (n : ℕ) (b : Bool) (at : ℕ) (f : Fault) (r : ResolvedExpression)
    → LightIf w n r.found → LightIf w n (only_where b at f r).found
only_where_light w n b at f r h = given_that_light w n b at f r.faults r h

rule_1_light : (w : Weights) (m n at : ℕ) (rule : TypedNode → Option TypedNode) (fs : List FaultAt)
    (o : Option TypedNode) → LightIf w m o → ((a : TypedNode) → weight w a ≤ m
    → LightIf w n (rule a)) → LightIf w n (rule_1 at rule fs o).found
rule_1_light w m n at rule fs None h go = tt
rule_1_light w m n at rule fs (Some a) h go = ruled_light w n at _ fs (rule a) (go a h)

rule_2_light : (w : Weights) (k m n at : ℕ) (rule : TypedNode → TypedNode → Option TypedNode)
    (fs : List FaultAt) (o q : Option TypedNode) → LightIf w k o → LightIf w m q
    → ((a b : TypedNode) → weight w a ≤ k → weight w b ≤ m → LightIf w n (rule a b))
    → LightIf w n (rule_2 at rule fs o q).found
rule_2_light w k m n at rule fs None q h h' go = tt
rule_2_light w k m n at rule fs (Some a) q h h' go = rule_1_light w m n at (rule a) fs q h'
    (λ b l. go a b h l)

rule_3_light : (w : Weights) (i k m n at : ℕ)
    (rule : TypedNode → TypedNode → TypedNode → Option TypedNode) (fs : List FaultAt)
    (o q r : Option TypedNode) → LightIf w i o → LightIf w k q → LightIf w m r
    → ((c a b : TypedNode) → weight w c ≤ i → weight w a ≤ k → weight w b ≤ m
    → LightIf w n (rule c a b)) → LightIf w n (rule_3 at rule fs o q r).found
rule_3_light w i k m n at rule fs None q r h h' h'' go = tt
rule_3_light w i k m n at rule fs (Some c) q r h h' h'' go = rule_2_light w k m n at (rule c) fs q r
    h' h'' (λ a b l l'. go c a b h l l')

-- a node with one part, two or three, of which it is made by a rule
one_part : (w : Weights) (a at : ℕ) (rule : TypedNode → Option TypedNode) (fs : List FaultAt)
    (o : Option TypedNode) → LightIf w (w.each * a) o
    → ((x : TypedNode) → LightIf w (w.each + weight w x) (rule x))
    → LightIf w (w.each * (1 + a)) (rule_1 at rule fs o).found
one_part w a at rule fs o h go =
    let e = times_1 w.each a in
    rule_1_light w (w.each * a) (w.each * (1 + a)) at rule fs o h
    (λ x l. lighter w (w.each + weight w x) (w.each * (1 + a)) (rule x) (omega arith) (go x))

two_parts : (w : Weights) (a b at : ℕ) (rule : TypedNode → TypedNode → Option TypedNode)
    (fs : List FaultAt) (o q : Option TypedNode) → LightIf w (w.each * a) o
    → LightIf w (w.each * b) q
    → ((x y : TypedNode) → LightIf w (w.each + (weight w x + weight w y)) (rule x y))
    → LightIf w (w.each * (1 + (a + b))) (rule_2 at rule fs o q).found
two_parts w a b at rule fs o q h h' go =
    let e = times_2 w.each a b in
    rule_2_light w (w.each * a) (w.each * b) (w.each * (1 + (a + b))) at rule fs o q h h'
    (λ x y l l'. lighter w (w.each + (weight w x + weight w y)) (w.each * (1 + (a + b)))
    (rule x y) (omega arith) (go x y))

three_parts : (w : Weights) (c a b at : ℕ) (rule : TypedNode → TypedNode → TypedNode
    → Option TypedNode) (fs : List FaultAt) (o q r : Option TypedNode) → LightIf w (w.each * c) o
    → LightIf w (w.each * a) q → LightIf w (w.each * b) r
    → ((z x y : TypedNode) → LightIf w (w.each + (weight w z + (weight w x + weight w y)))
    (rule z x y)) → LightIf w (w.each * (1 + (c + (a + b)))) (rule_3 at rule fs o q r).found
three_parts w c a b at rule fs o q r h h' h'' go =
    let e = times_3 w.each c a b in
    rule_3_light w (w.each * c) (w.each * a) (w.each * b) (w.each * (1 + (c + (a + b)))) at rule fs
    o q r h h' h'' (λ z x y l l' l''. lighter w
    (w.each + (weight w z + (weight w x + weight w y))) (w.each * (1 + (c + (a + b))))
    (rule z x y) (omega arith) (go z x y))

-- ---- what has no parts

constant_light : (w : Weights) → NodesAdd w → (z : Size) (n : ℕ)
    → w.converted + w.node (nodes.Constant z n) ≤ w.each * 1
constant_light w adds z n = let h = adds.constant z n in let e = mul-one w.each in omega arith

literal_light : (w : Weights) → NodesAdd w → (l : Literal) → weight w (literal l) ≤ w.each * 1
literal_light w adds (literals.Integer n of) = constant_light w adds _ _
literal_light w adds (literals.CharacterConstant c) = constant_light w adds _ _

name_light : (w : Weights) → NodesAdd w → (at : ℕ) (e : Option Entity)
    → LightIf w (w.each * 1) (name at e).found
name_light w adds at (Some (LocalVariable x t)) = let h = adds.of_local x in
    let e = mul-one w.each in omega arith
name_light w adds at (Some (LocalArray x t)) = let h = adds.array x 0 in
    let e = mul-one w.each in omega arith
name_light w adds at (Some (GlobalVariable a t)) = let h = adds.of_global (access_of t) a in
    let e = mul-one w.each in omega arith
name_light w adds at (Some (GlobalArray a t)) = constant_light w adds _ _
name_light w adds at (Some (BuiltInConstant n)) = constant_light w adds _ _
name_light w adds at other = tt

information_light : (w : Weights) → NodesAdd w → (f : Field')
    → w.converted + w.node (nodes.Information f) ≤ w.each * 1
information_light w adds f = let h = adds.information f in let e = mul-one w.each in omega arith

field_light : (w : Weights) → NodesAdd w → (f : Field) → LightIf w (w.each * 1) (field f).found
field_light w adds record_fields.Code = information_light w adds _
field_light w adds record_fields.Flags = information_light w adds _
field_light w adds record_fields.Count = information_light w adds _
field_light w adds (record_fields.Information k at) = given_that_light w (w.each * 1) (nat_le k 14)
    at _ [] _ (information_light w adds _)

-- ---- calls

abbrev AreLight : Weights → ℕ → Option nodes.Arguments → Type 0
AreLight w n None = Unit {0}
AreLight w n (Some es) = w.arguments es ≤ n

before_light : (w : Weights) → NodesAdd w → (m n : ℕ) (fs : List FaultAt) (e : nodes.Expression)
    (o : Option nodes.Arguments) (gs : List FaultAt) → w.expression e ≤ m → AreLight w n o
    → AreLight w (m + n) (before fs e (record { found = o; faults = gs })).found
before_light w adds m n fs e None gs h l = tt
before_light w adds m n fs e (Some es) gs h l = let a = adds.argument e es in omega arith

passed_weight : (w : Weights) → NodesAdd w → (x : Wanted) (a : TypedNode)
    → w.expression (passed x a) ≤ weight w a
passed_weight w adds (OfType t) a = typed_weight w adds t a
passed_weight w adds ZeroLiteral a = typed_weight w adds int a

fit_light : (w : Weights) (n : ℕ) (b : Bool) (x y : Passed) → AreLight w n x.found → y.found ≡ None
    → AreLight w n (if b then x else y).found
fit_light w n true x y h e = h
fit_light w n false x y h e = subst (λ o. AreLight w n o) (sym e) tt

pass_light : (w : Weights) → NodesAdd w → (x : Wanted) (at m n : ℕ) (fs : List FaultAt)
    (o : Option TypedNode) (rest : Passed) → LightIf w m o → AreLight w n rest.found
    → AreLight w (m + n) (pass x at fs o rest).found
pass_light w adds x at m n fs None rest h l = tt
pass_light w adds x at m n fs (Some a) rest h l =
    let e = passed_weight w adds x a in
    fit_light w (m + n) (fits x a) (before fs (passed x a) rest) (spoiled _ rest)
    (before_light w adds m n fs (passed x a) rest.found rest.faults (omega arith) l) refl

called_light : (w : Weights) (n : ℕ) (t : CType) (make : nodes.Arguments → Node)
    (o : Option nodes.Arguments) (fs : List FaultAt) → AreLight w n o
    → ((es : nodes.Arguments) → w.node (make es) + w.converted ≤ w.each + w.arguments es)
    → LightIf w (w.each + n) (called t make (record { found = o; faults = fs })).found
called_light w n t make None fs h go = tt
called_light w n t make (Some es) fs h go = let g = go es in omega arith

-- whatever is wanted of arguments, those that are passed weigh at most so much
abbrev ArgumentsLight : Weights → ℕ → List Argument → Type 0
ArgumentsLight w n args = (ws : List Wanted) → AreLight w n (pass_all ws args).found

with_light : (w : Weights) (n at : ℕ) (ws : List Wanted) (t : CType) (make : nodes.Arguments → Node)
    (args : List Argument) → ArgumentsLight w n args
    → ((es : nodes.Arguments) → w.node (make es) + w.converted ≤ w.each + w.arguments es)
    → LightIf w (w.each + n) (call_with at ws t make args).found
with_light w n at ws t make args h go = given_that_light w (w.each + n)
    (nat_eq (length ws) (length args)) at _ _ _
    (called_light w n t make (pass_all ws args).found (pass_all ws args).faults (h ws) go)

-- the same of a call that names a vectored handler
naming_light : (w : Weights) (n : ℕ) (make : ℕ → nodes.Arguments → Node)
    (o : Option nodes.Arguments) (fs : List FaultAt) (f : Option ℕ) (gs : List FaultAt)
    → AreLight w n o
    → ((k : ℕ) (es : nodes.Arguments)
    → w.node (make k es) + w.converted ≤ w.each + w.arguments es)
    → LightIf w (w.each + n) (call_naming make (record { found = o; faults = fs })
    (record { found = f; faults = gs })).found
naming_light w n make None fs f gs h go = tt
naming_light w n make (Some es) fs None gs h go = tt
naming_light w n make (Some es) fs (Some k) gs h go = let g = go k es in omega arith

with_handler_light : (w : Weights) → NodesAdd w → (n at : ℕ) (ws : List Wanted)
    (of : ℕ → BuiltIn) (args : List Argument) → ArgumentsLight w n args
    → LightIf w (w.each + n) (call_with_handler at ws of args).found
with_handler_light w adds n at ws of args h =
    given_that_light w (w.each + n) (nat_eq (length ws + 1) (length args)) at _ _ _
    (naming_light w n (λ f. nodes.CallBuiltIn (of f)) (pass_all ws args).found
    (pass_all ws args).faults (handler_after ws args).found (handler_after ws args).faults (h ws)
    (λ k es. adds.built_in_call (of k) es))

call_light : (w : Weights) → NodesAdd w → (s : Names) (n at : ℕ) (e : Option Entity)
    (args : List Argument) → ArgumentsLight w n args
    → LightIf w (w.each + n) (call s at e args).found
call_light w adds s n at (Some (UserFunction f t ps)) args h = with_light w n at (map OfType ps) t
    (nodes.Call f) args h (adds.call f)
call_light w adds s n at (Some (BuiltInFunction k)) args h = with_light w n at (built_in_wants k) _
    (nodes.CallBuiltIn k) args h (adds.built_in_call k)
call_light w adds s n at (Some CodeFunction) args h = only_where_light w (w.each + n) s.code at _ _
    (with_light w n at [] _ (λ es. nodes.ExceptionCode) args h
    (λ es. let g = adds.exception_code in omega arith))
call_light w adds s n at (Some AbnormalFunction) args h = only_where_light w (w.each + n) s.abnormal
    at _ _ (with_light w n at [] _ (λ es. nodes.AbnormalTermination) args h
    (λ es. let g = adds.abnormal_termination in omega arith))
call_light w adds s n at (Some AddingFunction) args h =
    with_handler_light w adds n at (OfType unsigned ∷ []) (λ f. AddVectored f) args h
call_light w adds s n at (Some RemovingFunction) args h =
    with_handler_light w adds n at [] (λ f. RemoveVectored f) args h
call_light w adds s n at other args h = tt

-- ---- expressions

changed_light : (w : Weights) → NodesAdd w → (o : Option Arithmetic) (at value_at m n : ℕ)
    (a b : ResolvedExpression) → LightIf w (w.each * m) a.found → LightIf w (w.each * n) b.found
    → LightIf w (w.each * (1 + (m + n))) (changed o at value_at a b).found
changed_light w adds None at value_at m n a b h l = two_parts w m n value_at assigned _ a.found
    b.found h l (assigned_light w adds)
changed_light w adds (Some o) at value_at m n a b h l = two_parts w m n at (compound_assigned o) _
    a.found b.found h l (compound_light w adds o)

mutual
  pub resolved_light : (w : Weights) → NodesAdd w → (s : Names) (e : Expression)
      → LightIf w (w.each * counted.nodes e) (resolve_expression s e).found
  resolved_light w adds s (trees.Constant at l) = literal_light w adds l
  resolved_light w adds s (trees.Variable n) = name_light w adds n.start (s.entity n)
  resolved_light w adds s (trees.Information at f) = given_that_light w (w.each * 1) s.information
      at _ [] (field f) (field_light w adds f)
  resolved_light w adds s (trees.Call n es) =
      let e = times_1 w.each (nodes_of_arguments es) in
      lighter w (w.each + w.each * nodes_of_arguments es) (w.each * (1 + nodes_of_arguments es))
      (resolve_expression s (trees.Call n es)).found (omega arith)
      (call_light w adds s (w.each * nodes_of_arguments es) n.start (s.entity n)
      (resolve_arguments s es) (arguments_light w adds s es))
  resolved_light w adds s (trees.Parentheses at e) =
      let t = times_1 w.each (counted.nodes e) in
      lighter w (w.each * counted.nodes e) (w.each * (1 + counted.nodes e))
      (resolve_expression s e).found (omega arith) (resolved_light w adds s e)
  resolved_light w adds s (trees.Index a at i) =
      two_parts w (counted.nodes a) (counted.nodes i) at _ _ (resolve_expression s a).found
      (resolve_expression s i).found (resolved_light w adds s a) (resolved_light w adds s i)
      (element_light w adds)
  resolved_light w adds s (trees.Postfix e o at) =
      given_that_light w _ _ (start e) _ _ _ (one_part w (counted.nodes e) at _ _
      (resolve_expression s e).found (resolved_light w adds s e) (incremented_light w adds _ o))
  resolved_light w adds s (trees.Prefix at o e) =
      given_that_light w _ _ (start e) _ _ _ (one_part w (counted.nodes e) at _ _
      (resolve_expression s e).found (resolved_light w adds s e) (incremented_light w adds _ o))
  resolved_light w adds s (trees.Unary at o e) =
      given_that_light w _ _ (start e) _ _ _ (one_part w (counted.nodes e) at _ _
      (resolve_expression s e).found (resolved_light w adds s e) (unary_light w adds o))
  resolved_light w adds s (trees.Cast at t e) = one_part w (counted.nodes e) at _ _
      (resolve_expression s e).found (resolved_light w adds s e) (cast_light w adds t)
  resolved_light w adds s (trees.Binary a at o b) =
      two_parts w (counted.nodes a) (counted.nodes b) at _ _ (resolve_expression s a).found
      (resolve_expression s b).found (resolved_light w adds s a) (resolved_light w adds s b)
      (binary_light w adds o)
  resolved_light w adds s (trees.Conditional c at a b) =
      three_parts w (counted.nodes c) (counted.nodes a) (counted.nodes b) at _ _
      (resolve_expression s c).found (resolve_expression s a).found (resolve_expression s b).found
      (resolved_light w adds s c) (resolved_light w adds s a) (resolved_light w adds s b)
      (conditional_light w adds)
  resolved_light w adds s (trees.Assign a at o b) =
      given_that_light w _ _ (start a) _ _ _ (changed_light w adds o at (start b) (counted.nodes a)
      (counted.nodes b) (resolve_expression s a) (resolve_expression s b)
      (resolved_light w adds s a) (resolved_light w adds s b))
  resolved_light w adds s (trees.Comma a at b) =
      two_parts w (counted.nodes a) (counted.nodes b) at comma_of _ (resolve_expression s a).found
      (resolve_expression s b).found (resolved_light w adds s a) (resolved_light w adds s b)
      (comma_light w adds)

  arguments_light : (w : Weights) → NodesAdd w → (s : Names) (es : trees.Arguments)
      → ArgumentsLight w (w.each * nodes_of_arguments es) (resolve_arguments s es)
  arguments_light w adds s trees.Done [] = let h = adds.no_argument in omega arith
  arguments_light w adds s trees.Done (x ∷ ws) = let h = adds.no_argument in omega arith
  arguments_light w adds s (trees.Next e es) [] = let h = adds.no_argument in omega arith
  arguments_light w adds s (trees.Next e es) (x ∷ ws) =
      subst (λ n. AreLight w n (pass_all (x ∷ ws) (resolve_arguments s (trees.Next e es))).found)
      (sym (mul-add w.each (counted.nodes e) (nodes_of_arguments es)))
      (pass_light w adds x (start e) (w.each * counted.nodes e) (w.each * nodes_of_arguments es)
      (resolve_expression s e).faults (resolve_expression s e).found
      (pass_all ws (resolve_arguments s es)) (resolved_light w adds s e)
      (arguments_light w adds s es ws))
