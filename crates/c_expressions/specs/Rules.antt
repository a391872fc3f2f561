-- What the code of a rule on types gives, and what it keeps, after operands with these faults.
use Rattle.std.specs.Prelude.{◌≡◌, ℕ, Bool, true, false, List, Option, Some, None, option_map}
use Rattle.c_expressions.specs.declared.least.LeastFault.{LeastFault}
use Rattle.c_expressions.specs.declared.rules.TwoOperands.{TwoOperands}
use Rattle.c_expressions.specs.declared.rules.TwoOperands.TheVariants as operators
use Rattle.c_expressions.specs.Kept.{least_of, kept}
use Rattle.c_resolved.specs.Expressions.{Entity, UserFunction, BuiltInFunction, CodeFunction, AbnormalFunction, FaultAt, Names, ResolvedExpression, only_where, given_that, rule_1, rule_2, rule_3, is_lvalue, operand_is_lvalue}
use Rattle.c_resolved.specs.Operators.{TypedNode, assigned, compound_assigned, incremented, unary_of, binary_of, element_of, comma_of}
use Rattle.c_syntax.specs.declared.operator.Arithmetic.{Arithmetic}
use Rattle.c_syntax.specs.declared.operator.Increment.{Increment}
use Rattle.c_syntax.specs.declared.operator.UnaryOperator.{UnaryOperator}
use Rattle.c_syntax.specs.Expression as trees
use Rattle.c_syntax.specs.Expression.{Expression, start}
use Rattle.c_checked.specs.declared.expression.Fixity.{Fixity}
use Rattle.c_resolved.specs.declared.fault.Fault.{Fault}
use Rattle.c_resolved.specs.declared.fault.Fault.TheVariants.{NotLvalue}
use Rattle.c_types.specs.declared.typed.TypedNode.{TypedNode as TypedNode'}
use Rattle.c_types.specs.Views.{typed_node}

-- The code gives what the rule gives, whatever the operands' faults are.
abbrev pub FindsByRule : Option TypedNode' → (List FaultAt → ResolvedExpression) → Type 0
FindsByRule r rule = (fs : List FaultAt) → option_map typed_node r ≡ (rule fs).found

-- Where the operands' faults are kept, it keeps the rule's too.
abbrev pub Adds : LeastFault → LeastFault → (List FaultAt → ResolvedExpression) → Type 0
Adds before after rule =
    (first : Option FaultAt) (fs : List FaultAt) → least_of before ≡ kept first fs
    → least_of after ≡ kept first (rule fs).faults

-- ---- rules on the types of one operand, of two and of three, after operands with these faults

abbrev pub unary_rule : ℕ → (TypedNode → Option TypedNode) → Option TypedNode' → List FaultAt
    → ResolvedExpression
unary_rule at rule a fs = rule_1 at rule fs (option_map typed_node a)

abbrev pub binary_rule : ℕ → (TypedNode → TypedNode → Option TypedNode) → Option TypedNode'
    → Option TypedNode' → List FaultAt → ResolvedExpression
binary_rule at rule a b fs = rule_2 at rule fs (option_map typed_node a) (option_map typed_node b)

abbrev pub ternary_rule : ℕ → (TypedNode → TypedNode → TypedNode → Option TypedNode)
    → Option TypedNode' → Option TypedNode' → Option TypedNode' → List FaultAt → ResolvedExpression
ternary_rule at rule c a b fs =
    rule_3 at rule fs (option_map typed_node c) (option_map typed_node a) (option_map typed_node b)

-- `=`, or with an operator its compound form
abbrev pub assigning_rule : Option Arithmetic → TypedNode → TypedNode → Option TypedNode
assigning_rule None = assigned
assigning_rule (Some o) = compound_assigned o

-- what an operator makes of two operands
abbrev pub rule_of_two : TwoOperands → TypedNode → TypedNode → Option TypedNode
rule_of_two operators.Element = element_of
rule_of_two (operators.Operator o) = binary_of o
rule_of_two operators.Comma = comma_of
rule_of_two (operators.Assign o) = assigning_rule o

abbrev pub assigning : Option Arithmetic → ℕ → List FaultAt → Option TypedNode → Option TypedNode
    → ResolvedExpression
assigning o at fs a b = rule_2 at (assigning_rule o) fs a b

-- the place of its fault: the value's for `=`
abbrev pub assigning_at : Option Arithmetic → ℕ → ℕ → ℕ
assigning_at None at value = value
assigning_at (Some o) at value = at

-- ---- operators whose operand has to be an lvalue, after operands with these faults

abbrev pub stepping : Names → ℕ → Fixity → Increment → Expression → List FaultAt → Option TypedNode
    → ResolvedExpression
stepping s at m o e fs a =
    given_that (is_lvalue s e) (start e) NotLvalue fs (rule_1 at (incremented m o) fs a)

abbrev pub preceding : Names → ℕ → UnaryOperator → Expression → List FaultAt → Option TypedNode
    → ResolvedExpression
preceding s at o e fs a =
    given_that (operand_is_lvalue o s e) (start e) NotLvalue fs (rule_1 at (unary_of o) fs a)

abbrev pub assigning_to : Names → Expression → ℕ → Option Arithmetic → List FaultAt
    → Option TypedNode → Option TypedNode → ResolvedExpression
assigning_to s target at o fs a b =
    given_that (is_lvalue s target) (start target) NotLvalue fs (assigning o at fs a b)

-- a call that is right in itself, but has a meaning in some places alone, after arguments with
-- these faults
abbrev pub allowed_call : Bool → ℕ → Fault → List FaultAt → Option TypedNode → ResolvedExpression
allowed_call allowed at f fs a = only_where allowed at f (record { found = a; faults = fs })

-- ---- what a called name means

-- no function that means the same everywhere
abbrev pub is_special : Option Entity → Bool
is_special (Some (UserFunction f t ps)) = false
is_special (Some (BuiltInFunction k)) = false
is_special meaning = true

-- nor one whose arguments are values
abbrev pub is_handler_function : Option Entity → Bool
is_handler_function (Some CodeFunction) = false
is_handler_function (Some AbnormalFunction) = false
is_handler_function meaning = is_special meaning

-- ---- kinds of expressions

abbrev pub is_conditional_or_assignment : Expression → Bool
is_conditional_or_assignment (trees.Conditional c at a b) = true
is_conditional_or_assignment (trees.Assign a at o b) = true
is_conditional_or_assignment other = false

-- with several operands
abbrev pub has_several : Expression → Bool
has_several (trees.Index a at i) = true
has_several (trees.Binary a at o b) = true
has_several (trees.Comma a at b) = true
has_several other = is_conditional_or_assignment other

-- with an operator before its operand, or with several operands
abbrev pub has_prefix_or_several : Expression → Bool
has_prefix_or_several (trees.Prefix at o a) = true
has_prefix_or_several (trees.Unary at o a) = true
has_prefix_or_several (trees.Cast at t a) = true
has_prefix_or_several other = has_several other
