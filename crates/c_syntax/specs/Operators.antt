-- The punctuators of operators, and how tightly they bind (C11, 6.5; the tightest level first).
use Rattle.std.specs.Prelude.{ℕ, Option, Some, None}
use Rattle.c_lex.specs.declared.punctuator.Punctuator.{Punctuator}
use Rattle.c_lex.specs.declared.punctuator.Punctuator.TheVariants as punctuators
use Rattle.c_syntax.specs.declared.level.TheConstants as levels
use Rattle.c_syntax.specs.declared.operator.Arithmetic.{Arithmetic}
use Rattle.c_syntax.specs.declared.operator.Arithmetic.TheVariants.{Multiply, Divide, Remainder}
use Rattle.c_syntax.specs.declared.operator.Arithmetic.TheVariants.{Add, Subtract, ShiftLeft}
use Rattle.c_syntax.specs.declared.operator.Arithmetic.TheVariants.{ShiftRight, And, ExclusiveOr}
use Rattle.c_syntax.specs.declared.operator.Arithmetic.TheVariants.{Or}
use Rattle.c_syntax.specs.declared.operator.Comparison.{Comparison}
use Rattle.c_syntax.specs.declared.operator.Comparison.TheVariants.{Less, Greater, LessEqual}
use Rattle.c_syntax.specs.declared.operator.Comparison.TheVariants.{GreaterEqual, Equal, NotEqual}
use Rattle.c_syntax.specs.declared.operator.BinaryOperator.{BinaryOperator}
use Rattle.c_syntax.specs.declared.operator.BinaryOperator.TheVariants as binary
use Rattle.c_syntax.specs.declared.operator.UnaryOperator.{UnaryOperator}
use Rattle.c_syntax.specs.declared.operator.UnaryOperator.TheVariants as unary_operators
use Rattle.c_syntax.specs.declared.operator.Increment.{Increment}
use Rattle.c_syntax.specs.declared.operator.Increment.TheVariants as increments

-- ---- levels

abbrev pub primary : ℕ
primary = levels.PRIMARY

abbrev pub postfix : ℕ
postfix = levels.POSTFIX

abbrev pub unary : ℕ
unary = levels.UNARY

abbrev pub cast : ℕ
cast = levels.CAST

abbrev pub logical_or : ℕ
logical_or = levels.LOGICAL_OR

abbrev pub conditional : ℕ
conditional = levels.CONDITIONAL

abbrev pub assignment : ℕ
assignment = levels.ASSIGNMENT

abbrev pub comma : ℕ
comma = levels.COMMA

abbrev pub never : ℕ
never = levels.NEVER

abbrev pub level_of_arithmetic : Arithmetic → ℕ
level_of_arithmetic Multiply = levels.MULTIPLICATIVE
level_of_arithmetic Divide = levels.MULTIPLICATIVE
level_of_arithmetic Remainder = levels.MULTIPLICATIVE
level_of_arithmetic Add = levels.ADDITIVE
level_of_arithmetic Subtract = levels.ADDITIVE
level_of_arithmetic ShiftLeft = levels.SHIFT
level_of_arithmetic ShiftRight = levels.SHIFT
level_of_arithmetic And = levels.AND
level_of_arithmetic ExclusiveOr = levels.EXCLUSIVE_OR
level_of_arithmetic Or = levels.INCLUSIVE_OR

abbrev pub level_of_comparison : Comparison → ℕ
level_of_comparison Less = levels.RELATIONAL
level_of_comparison Greater = levels.RELATIONAL
level_of_comparison LessEqual = levels.RELATIONAL
level_of_comparison GreaterEqual = levels.RELATIONAL
level_of_comparison Equal = levels.EQUALITY
level_of_comparison NotEqual = levels.EQUALITY

abbrev pub level : BinaryOperator → ℕ
level (binary.Arithmetic a) = level_of_arithmetic a
level (binary.Comparison c) = level_of_comparison c
level binary.LogicalAnd = levels.LOGICAL_AND
level binary.LogicalOr = logical_or

-- ---- punctuators

abbrev pub punctuator_of_arithmetic : Arithmetic → Punctuator
punctuator_of_arithmetic Multiply = punctuators.Star
punctuator_of_arithmetic Divide = punctuators.Slash
punctuator_of_arithmetic Remainder = punctuators.Percent
punctuator_of_arithmetic Add = punctuators.Plus
punctuator_of_arithmetic Subtract = punctuators.Minus
punctuator_of_arithmetic ShiftLeft = punctuators.ShiftLeft
punctuator_of_arithmetic ShiftRight = punctuators.ShiftRight
punctuator_of_arithmetic And = punctuators.Ampersand
punctuator_of_arithmetic ExclusiveOr = punctuators.Caret
punctuator_of_arithmetic Or = punctuators.Bar

abbrev pub punctuator_of_comparison : Comparison → Punctuator
punctuator_of_comparison Less = punctuators.Less
punctuator_of_comparison Greater = punctuators.Greater
punctuator_of_comparison LessEqual = punctuators.LessEqual
punctuator_of_comparison GreaterEqual = punctuators.GreaterEqual
punctuator_of_comparison Equal = punctuators.Equal
punctuator_of_comparison NotEqual = punctuators.NotEqual

abbrev pub binary_punctuator : BinaryOperator → Punctuator
binary_punctuator (binary.Arithmetic a) = punctuator_of_arithmetic a
binary_punctuator (binary.Comparison c) = punctuator_of_comparison c
binary_punctuator binary.LogicalAnd = punctuators.AmpersandAmpersand
binary_punctuator binary.LogicalOr = punctuators.BarBar

abbrev pub unary_punctuator : UnaryOperator → Punctuator
unary_punctuator unary_operators.Plus = punctuators.Plus
unary_punctuator unary_operators.Minus = punctuators.Minus
unary_punctuator unary_operators.LogicalNot = punctuators.Exclamation
unary_punctuator unary_operators.Complement = punctuators.Tilde
unary_punctuator unary_operators.Indirection = punctuators.Star
unary_punctuator unary_operators.AddressOf = punctuators.Ampersand

abbrev pub increment_punctuator : Increment → Punctuator
increment_punctuator increments.Increment = punctuators.PlusPlus
increment_punctuator increments.Decrement = punctuators.MinusMinus

abbrev pub compound_punctuator : Arithmetic → Punctuator
compound_punctuator Multiply = punctuators.StarAssign
compound_punctuator Divide = punctuators.SlashAssign
compound_punctuator Remainder = punctuators.PercentAssign
compound_punctuator Add = punctuators.PlusAssign
compound_punctuator Subtract = punctuators.MinusAssign
compound_punctuator ShiftLeft = punctuators.ShiftLeftAssign
compound_punctuator ShiftRight = punctuators.ShiftRightAssign
compound_punctuator And = punctuators.AmpersandAssign
compound_punctuator ExclusiveOr = punctuators.CaretAssign
compound_punctuator Or = punctuators.BarAssign

-- `=`, or an operator with `=`
abbrev pub assignment_punctuator : Option Arithmetic → Punctuator
assignment_punctuator None = punctuators.Assign
assignment_punctuator (Some a) = compound_punctuator a
