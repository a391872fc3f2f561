-- What an expression is resolved to is good, or the expression holds a fault.
use Rattle.std.proofs.Common.{◌≡◌, ℕ, ◌%◌, ◌^◌, refl, ap, ◌∙◌, arith}
use Rattle.std.proofs.lemmas.Bool.{lt-ltb}
use Rattle.std.proofs.lemmas.Option.{slice_get_within}
use Rattle.std.specs.Prelude.{Bool, true, nat_lt, nat_le, List, [], ◌++◌, length, slice_get, Option, Some, None}
use Rattle.c_resolved.specs.Words.{W32, low, wrapped, Size, Fixity, constant_fits, UnsignedLongLong, CType, Field, Literal, Arithmetic, Increment, UnaryOperator, Expression, start, NotLvalue, TypeClash, InfoOutsideFilter, plain, pointer_to, is_scalar, access_of, width_of, size_of, TypedNode, int, unary_of, binary_of, cast_of, element_of, assigned, compound_assigned, incremented, conditional_of, comma_of, Entity, LocalVariable, GlobalVariable, GlobalArray, BuiltInConstant, Names, FaultAt, ResolvedExpression, rule_1, rule_3, given_that, integer_base, constant, literal, name, is_lvalue, operand_is_lvalue, unsigned, field, changed, resolve_expression, resolve_arguments, name_of, LocalArray, Place, place_of, variable_at, array_at}
use Rattle.c_resolved.proofs.Settings.{Setting}
use Rattle.c_operations.specs.Numbers.{width}
use Rattle.c_operations.specs.declared.operation.Size.TheVariants as sizes
use Rattle.c_operations.specs.declared.field.Field.TheVariants as fields
use Rattle.c_checked.specs.declared.expression.Fixity.TheVariants.{Postfix, Prefix}
use Rattle.c_checked.specs.Expression as nodes
use Rattle.c_checked.specs.Sound as sound
use Rattle.c_lex.specs.declared.token.IntegerType.{IntegerType}
use Rattle.c_lex.specs.declared.token.IntegerType.TheVariants as integers
use Rattle.c_syntax.specs.declared.expression.Field.TheVariants as record_fields
use Rattle.c_syntax.specs.declared.expression.Literal.TheVariants as literals
use Rattle.c_syntax.specs.Expression as trees
use Rattle.c_resolved.proofs.SettledRules.{FoundOr, IsSettled, ruled_settled, rule_1_settled, rule_3_settled, given_that_settled, rule_of_two, found_before, found_after, PlaceFits, MeaningFits, NamesFit}
use Rattle.c_resolved.proofs.SettledCalls.{AllSettled, call_settled, handler_settled}
use Rattle.c_resolved.proofs.TypeFacts.{pointer_scalar, size_in_memory_is, pointer_to_pointer}
use Rattle.c_resolved.proofs.Operands.{IsGood, and_true, typed_good, pointer_good}
use Rattle.c_resolved.proofs.ConditionalResults.{conditional_good, comma_good}
use Rattle.c_resolved.proofs.Results.{unary_good, binary_good, cast_good, element_good, assigned_good, compound_assigned_good, incremented_good}

-- ---- literals and names

low_fits : (z : Size) (n : ℕ) → constant_fits z (low (width z) n) ≡ true
low_fits sizes.Int n = lt-ltb (n % 2 ^ 32) (2 ^ 32) (omega arith)
low_fits sizes.Long n = lt-ltb (n % 2 ^ 64) (2 ^ 64) (omega arith)

constant_good : (S : Setting) (t : CType) (n : ℕ) → is_scalar t ≡ true
    → IsGood S (constant t n)
constant_good S t n h = typed_good S t (nodes.Constant (size_of t) (low (width (size_of t)) n)) h
    (low_fits (size_of t) n) refl

integer_scalar_type : (of : IntegerType) → is_scalar (plain (integer_base of)) ≡ true
integer_scalar_type integers.Int = refl
integer_scalar_type of = refl

literal_good : (S : Setting) (l : Literal) → IsGood S (literal l)
literal_good S (literals.Integer n of) =
    let h = integer_scalar_type of in
    let g = constant_good S (plain (integer_base of)) n h in
    record { sound = g.sound; sized = g.sized; zero = λ z. h }
literal_good S (literals.CharacterConstant c) = constant_good S int (wrapped W32 c) refl

within : (zs : List Size) (x : ℕ) (z : Size) → slice_get zs x ≡ Some z → nat_lt x (length zs) ≡ true
within zs x z h = lt-ltb x (length zs) (slice_get_within zs x z h)

variable_placed : (S : Setting) (x : ℕ) (t : CType) (p : Option Place)
    → slice_get S.around.sizes x ≡ Some (size_of t)
    → PlaceFits S.around.sizes S.layout.base t None p
    → (sound.lvalue_sound S.around (variable_at S.layout.base x p) ≡ true)
    × (sound.lvalue_size S.around (variable_at S.layout.base x p) ≡ Some (size_of t))
variable_placed S x t None h g = (within S.around.sizes x (size_of t) h, h)
variable_placed S x t (Some p) h g = (
  and_true g.0 (lt-ltb p.offset (2 ^ 32) (omega (arith, g.3))),
  ap (λ a. Some (sound.size_in_memory a.width)) g.1
      ∙ ap (λ z. Some z) (size_in_memory_is (width_of t)),
)

array_placed : (S : Setting) (t : CType) (n : ℕ) (p : Option Place)
    → PlaceFits S.around.sizes S.layout.base t (Some n) p
    → (sound.node_sound S.around (array_at S.layout.base p) ≡ true)
    × (sound.node_size S.around (array_at S.layout.base p) ≡ Some sizes.Long)
array_placed S t n None g = (refl, refl)
array_placed S t n (Some p) g =
    (and_true g.0 (lt-ltb p.offset (2 ^ 32) (omega (arith, g.3))), refl)

name_settled : (S : Setting) (at : ℕ) (e : Option Entity) → MeaningFits S.around.functions
    S.around.sizes S.layout e
    → IsSettled S (name at e)
name_settled S at (Some (LocalVariable x t)) h =
    let v = variable_placed S x t (place_of S.layout x) h.0 h.1 in
    typed_good S t (nodes.Read (nodes.Local x)) h.2 v.0 v.1
name_settled S at (Some (LocalArray x t)) h =
    let a = array_placed S t h.0 (place_of S.layout x) h.1 in
    pointer_good S (pointer_to t) (nodes.StackedArray x 0) (pointer_to_pointer t) a.0 a.1
name_settled S at (Some (GlobalVariable a t)) h = typed_good S t
    (nodes.Read (nodes.Global (access_of t) a)) h.1 h.0
    (ap (λ z. Some z) (size_in_memory_is (width_of t)))
name_settled S at (Some (GlobalArray a t)) h = constant_good S (pointer_to t) a
    (pointer_scalar (pointer_to t) (pointer_to_pointer t))
name_settled S at (Some (BuiltInConstant n)) h = constant_good S int n refl
name_settled S at other h = tt

field_settled : (S : Setting) (f : Field) → S.around.information ≡ true → IsSettled S (field f)
field_settled S record_fields.Code h = typed_good S unsigned
    (nodes.Information fields.ExceptionCode) refl h refl
field_settled S record_fields.Flags h = typed_good S unsigned
    (nodes.Information fields.ExceptionFlags) refl h refl
field_settled S record_fields.Count h = typed_good S unsigned
    (nodes.Information fields.NumberParameters) refl h refl
field_settled S (record_fields.Information k at) h =
    given_that_settled S (nat_le k 14) at TypeClash [] _
    (λ e. typed_good S (plain UnsignedLongLong)
    (nodes.Information (fields.ExceptionInformation k)) refl h refl)

-- ---- one operand

unary_settled : (S : Setting) (at : ℕ) (o : UnaryOperator) (fs : List FaultAt)
    (x : Option TypedNode) → FoundOr S x fs → IsSettled S (rule_1 at (unary_of o) fs x)
unary_settled S at o fs None g = g
unary_settled S at o fs (Some a) g = ruled_settled S at TypeClash fs (unary_of o a)
    (unary_good S o a g)

-- ---- expressions

changed_settled : (S : Setting) (o : Option Arithmetic) (at value_at : ℕ)
    (a b : ResolvedExpression) → IsSettled S a → IsSettled S b
    → IsSettled S (changed o at value_at a b)
changed_settled S None at value_at a b g h = rule_of_two S value_at assigned a b g h
    (assigned_good S)
changed_settled S (Some o) at value_at a b g h = rule_of_two S at (compound_assigned o) a b g h
    (compound_assigned_good S o)

incremented_settled : (S : Setting) (lvalue : Bool) (first at : ℕ) (m : Fixity)
    (o : Increment) (j : ResolvedExpression) → IsSettled S j
    → IsSettled S (given_that lvalue first NotLvalue j.faults
    (rule_1 at (incremented m o) j.faults j.found))
incremented_settled S lvalue first at m o j g =
    given_that_settled S lvalue first NotLvalue j.faults
    (rule_1 at (incremented m o) j.faults j.found) λ e. rule_1_settled S at (incremented m o)
    j.faults j.found g (incremented_good S m o)

conditional_settled : (S : Setting) (at : ℕ) (c a b : ResolvedExpression) → IsSettled S c
    → IsSettled S a → IsSettled S b
    → IsSettled S (rule_3 at conditional_of (c.faults ++ a.faults ++ b.faults) c.found a.found
    b.found)
conditional_settled S at c a b f g h =
    rule_3_settled S at conditional_of (c.faults ++ a.faults ++ b.faults) c.found a.found b.found
    (found_before S c.found (c.faults ++ a.faults) b.faults
    (found_before S c.found c.faults a.faults f))
    (found_before S a.found (c.faults ++ a.faults) b.faults
    (found_after S a.found c.faults a.faults g))
    (found_after S b.found (c.faults ++ a.faults) b.faults h) (conditional_good S)

mutual
  pub settled : (S : Setting) (s : Names) → NamesFit S s → (e : Expression)
      → IsSettled S (resolve_expression s e)
  settled S s fit (trees.Constant at l) = literal_good S l
  settled S s fit (trees.Variable n) = name_settled S n.start (s.entity n) (fit.entities n)
  settled S s fit (trees.Information at f) = given_that_settled S s.information at InfoOutsideFilter
      [] (field f) (λ e. field_settled S f (fit.information e))
  settled S s fit (trees.Call n es) = call_settled S s fit n.start (s.entity n)
      (resolve_arguments s es) (fit.entities n) (all_settled S s fit es)
  settled S s fit (trees.Parentheses at e) = settled S s fit e
  settled S s fit (trees.Index a at i) = rule_of_two S at element_of (resolve_expression s a)
      (resolve_expression s i) (settled S s fit a) (settled S s fit i) (element_good S)
  settled S s fit (trees.Postfix e o at) = incremented_settled S (is_lvalue s e) (start e) at
      Postfix o (resolve_expression s e) (settled S s fit e)
  settled S s fit (trees.Prefix at o e) = incremented_settled S (is_lvalue s e) (start e) at Prefix
      o (resolve_expression s e) (settled S s fit e)
  settled S s fit (trees.Unary at o e) =
      let j = resolve_expression s e in
      given_that_settled S (operand_is_lvalue o s e) (start e) NotLvalue j.faults
      (rule_1 at (unary_of o) j.faults j.found)
      (λ h. unary_settled S at o j.faults j.found (settled S s fit e))
  settled S s fit (trees.Cast at t e) = rule_1_settled S at (cast_of t)
      (resolve_expression s e).faults (resolve_expression s e).found (settled S s fit e)
      (cast_good S t)
  settled S s fit (trees.Binary a at o b) = rule_of_two S at (binary_of o) (resolve_expression s a)
      (resolve_expression s b) (settled S s fit a) (settled S s fit b) (binary_good S o)
  settled S s fit (trees.Conditional c at a b) =
      conditional_settled S at (resolve_expression s c) (resolve_expression s a)
      (resolve_expression s b) (settled S s fit c) (settled S s fit a) (settled S s fit b)
  settled S s fit (trees.Assign a at o b) =
      let x = resolve_expression s a in
      let y = resolve_expression s b in
      given_that_settled S (is_lvalue s a) (start a) NotLvalue (x.faults ++ y.faults)
      (changed o at (start b) x y)
      (λ h. changed_settled S o at (start b) x y (settled S s fit a) (settled S s fit b))
  settled S s fit (trees.Comma a at b) = rule_of_two S at comma_of (resolve_expression s a)
      (resolve_expression s b) (settled S s fit a) (settled S s fit b) (comma_good S)

  all_settled : (S : Setting) (s : Names) → NamesFit S s → (es : trees.Arguments)
      → AllSettled S (resolve_arguments s es)
  all_settled S s fit trees.Done = tt
  all_settled S s fit (trees.Next e es) = (
    settled S s fit e,
    handler_settled S s fit (start e) (name_of e) (resolve_expression s e) (settled S s fit e),
    all_settled S s fit es,
  )
