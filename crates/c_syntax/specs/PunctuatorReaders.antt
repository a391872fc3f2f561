-- The operators that punctuators are.
use Rattle.std.specs.Prelude.{Option, Some, None}
use Rattle.c_lex.specs.declared.punctuator.Punctuator.{Punctuator}
use Rattle.c_lex.specs.declared.punctuator.Punctuator.TheVariants as punctuators
use Rattle.c_syntax.specs.declared.operator.Arithmetic.{Arithmetic}
use Rattle.c_syntax.specs.declared.operator.Arithmetic.TheVariants as arithmetic
use Rattle.c_syntax.specs.declared.operator.Comparison.TheVariants as comparisons
use Rattle.c_syntax.specs.declared.operator.BinaryOperator.{BinaryOperator}
use Rattle.c_syntax.specs.declared.operator.BinaryOperator.TheVariants as binary
use Rattle.c_syntax.specs.declared.operator.UnaryOperator.{UnaryOperator}
use Rattle.c_syntax.specs.declared.operator.UnaryOperator.TheVariants as unary_operators
use Rattle.c_syntax.specs.declared.operator.Increment.{Increment}
use Rattle.c_syntax.specs.declared.operator.Increment.TheVariants as increments

-- between two operands
abbrev pub binary_of : Punctuator → Option BinaryOperator
binary_of punctuators.OpenParenthesis = None
binary_of punctuators.CloseParenthesis = None
binary_of punctuators.OpenBracket = None
binary_of punctuators.CloseBracket = None
binary_of punctuators.OpenBrace = None
binary_of punctuators.CloseBrace = None
binary_of punctuators.Semicolon = None
binary_of punctuators.Comma = None
binary_of punctuators.Question = None
binary_of punctuators.Colon = None
binary_of punctuators.Arrow = None
binary_of punctuators.Assign = None
binary_of punctuators.PlusAssign = None
binary_of punctuators.MinusAssign = None
binary_of punctuators.StarAssign = None
binary_of punctuators.SlashAssign = None
binary_of punctuators.PercentAssign = None
binary_of punctuators.AmpersandAssign = None
binary_of punctuators.BarAssign = None
binary_of punctuators.CaretAssign = None
binary_of punctuators.ShiftLeftAssign = None
binary_of punctuators.ShiftRightAssign = None
binary_of punctuators.BarBar = Some binary.LogicalOr
binary_of punctuators.AmpersandAmpersand = Some binary.LogicalAnd
binary_of punctuators.Bar = Some (binary.Arithmetic arithmetic.Or)
binary_of punctuators.Caret = Some (binary.Arithmetic arithmetic.ExclusiveOr)
binary_of punctuators.Ampersand = Some (binary.Arithmetic arithmetic.And)
binary_of punctuators.Equal = Some (binary.Comparison comparisons.Equal)
binary_of punctuators.NotEqual = Some (binary.Comparison comparisons.NotEqual)
binary_of punctuators.Less = Some (binary.Comparison comparisons.Less)
binary_of punctuators.Greater = Some (binary.Comparison comparisons.Greater)
binary_of punctuators.LessEqual = Some (binary.Comparison comparisons.LessEqual)
binary_of punctuators.GreaterEqual = Some (binary.Comparison comparisons.GreaterEqual)
binary_of punctuators.ShiftLeft = Some (binary.Arithmetic arithmetic.ShiftLeft)
binary_of punctuators.ShiftRight = Some (binary.Arithmetic arithmetic.ShiftRight)
binary_of punctuators.Plus = Some (binary.Arithmetic arithmetic.Add)
binary_of punctuators.Minus = Some (binary.Arithmetic arithmetic.Subtract)
binary_of punctuators.Star = Some (binary.Arithmetic arithmetic.Multiply)
binary_of punctuators.Slash = Some (binary.Arithmetic arithmetic.Divide)
binary_of punctuators.Percent = Some (binary.Arithmetic arithmetic.Remainder)
binary_of punctuators.Exclamation = None
binary_of punctuators.Tilde = None
binary_of punctuators.PlusPlus = None
binary_of punctuators.MinusMinus = None

-- of an assignment, with its operator if it has one
abbrev pub assignment_of : Punctuator → Option (Option Arithmetic)
assignment_of punctuators.OpenParenthesis = None
assignment_of punctuators.CloseParenthesis = None
assignment_of punctuators.OpenBracket = None
assignment_of punctuators.CloseBracket = None
assignment_of punctuators.OpenBrace = None
assignment_of punctuators.CloseBrace = None
assignment_of punctuators.Semicolon = None
assignment_of punctuators.Comma = None
assignment_of punctuators.Question = None
assignment_of punctuators.Colon = None
assignment_of punctuators.Arrow = None
assignment_of punctuators.Assign = Some None
assignment_of punctuators.PlusAssign = Some (Some arithmetic.Add)
assignment_of punctuators.MinusAssign = Some (Some arithmetic.Subtract)
assignment_of punctuators.StarAssign = Some (Some arithmetic.Multiply)
assignment_of punctuators.SlashAssign = Some (Some arithmetic.Divide)
assignment_of punctuators.PercentAssign = Some (Some arithmetic.Remainder)
assignment_of punctuators.AmpersandAssign = Some (Some arithmetic.And)
assignment_of punctuators.BarAssign = Some (Some arithmetic.Or)
assignment_of punctuators.CaretAssign = Some (Some arithmetic.ExclusiveOr)
assignment_of punctuators.ShiftLeftAssign = Some (Some arithmetic.ShiftLeft)
assignment_of punctuators.ShiftRightAssign = Some (Some arithmetic.ShiftRight)
assignment_of punctuators.BarBar = None
assignment_of punctuators.AmpersandAmpersand = None
assignment_of punctuators.Bar = None
assignment_of punctuators.Caret = None
assignment_of punctuators.Ampersand = None
assignment_of punctuators.Equal = None
assignment_of punctuators.NotEqual = None
assignment_of punctuators.Less = None
assignment_of punctuators.Greater = None
assignment_of punctuators.LessEqual = None
assignment_of punctuators.GreaterEqual = None
assignment_of punctuators.ShiftLeft = None
assignment_of punctuators.ShiftRight = None
assignment_of punctuators.Plus = None
assignment_of punctuators.Minus = None
assignment_of punctuators.Star = None
assignment_of punctuators.Slash = None
assignment_of punctuators.Percent = None
assignment_of punctuators.Exclamation = None
assignment_of punctuators.Tilde = None
assignment_of punctuators.PlusPlus = None
assignment_of punctuators.MinusMinus = None

-- before an operand
abbrev pub unary_of : Punctuator → Option UnaryOperator
unary_of punctuators.OpenParenthesis = None
unary_of punctuators.CloseParenthesis = None
unary_of punctuators.OpenBracket = None
unary_of punctuators.CloseBracket = None
unary_of punctuators.OpenBrace = None
unary_of punctuators.CloseBrace = None
unary_of punctuators.Semicolon = None
unary_of punctuators.Comma = None
unary_of punctuators.Question = None
unary_of punctuators.Colon = None
unary_of punctuators.Arrow = None
unary_of punctuators.Assign = None
unary_of punctuators.PlusAssign = None
unary_of punctuators.MinusAssign = None
unary_of punctuators.StarAssign = None
unary_of punctuators.SlashAssign = None
unary_of punctuators.PercentAssign = None
unary_of punctuators.AmpersandAssign = None
unary_of punctuators.BarAssign = None
unary_of punctuators.CaretAssign = None
unary_of punctuators.ShiftLeftAssign = None
unary_of punctuators.ShiftRightAssign = None
unary_of punctuators.BarBar = None
unary_of punctuators.AmpersandAmpersand = None
unary_of punctuators.Bar = None
unary_of punctuators.Caret = None
unary_of punctuators.Ampersand = Some unary_operators.AddressOf
unary_of punctuators.Equal = None
unary_of punctuators.NotEqual = None
unary_of punctuators.Less = None
unary_of punctuators.Greater = None
unary_of punctuators.LessEqual = None
unary_of punctuators.GreaterEqual = None
unary_of punctuators.ShiftLeft = None
unary_of punctuators.ShiftRight = None
unary_of punctuators.Plus = Some unary_operators.Plus
unary_of punctuators.Minus = Some unary_operators.Minus
unary_of punctuators.Star = Some unary_operators.Indirection
unary_of punctuators.Slash = None
unary_of punctuators.Percent = None
unary_of punctuators.Exclamation = Some unary_operators.LogicalNot
unary_of punctuators.Tilde = Some unary_operators.Complement
unary_of punctuators.PlusPlus = None
unary_of punctuators.MinusMinus = None

-- `++` and `--`
abbrev pub increment_of : Punctuator → Option Increment
increment_of punctuators.OpenParenthesis = None
increment_of punctuators.CloseParenthesis = None
increment_of punctuators.OpenBracket = None
increment_of punctuators.CloseBracket = None
increment_of punctuators.OpenBrace = None
increment_of punctuators.CloseBrace = None
increment_of punctuators.Semicolon = None
increment_of punctuators.Comma = None
increment_of punctuators.Question = None
increment_of punctuators.Colon = None
increment_of punctuators.Arrow = None
increment_of punctuators.Assign = None
increment_of punctuators.PlusAssign = None
increment_of punctuators.MinusAssign = None
increment_of punctuators.StarAssign = None
increment_of punctuators.SlashAssign = None
increment_of punctuators.PercentAssign = None
increment_of punctuators.AmpersandAssign = None
increment_of punctuators.BarAssign = None
increment_of punctuators.CaretAssign = None
increment_of punctuators.ShiftLeftAssign = None
increment_of punctuators.ShiftRightAssign = None
increment_of punctuators.BarBar = None
increment_of punctuators.AmpersandAmpersand = None
increment_of punctuators.Bar = None
increment_of punctuators.Caret = None
increment_of punctuators.Ampersand = None
increment_of punctuators.Equal = None
increment_of punctuators.NotEqual = None
increment_of punctuators.Less = None
increment_of punctuators.Greater = None
increment_of punctuators.LessEqual = None
increment_of punctuators.GreaterEqual = None
increment_of punctuators.ShiftLeft = None
increment_of punctuators.ShiftRight = None
increment_of punctuators.Plus = None
increment_of punctuators.Minus = None
increment_of punctuators.Star = None
increment_of punctuators.Slash = None
increment_of punctuators.Percent = None
increment_of punctuators.Exclamation = None
increment_of punctuators.Tilde = None
increment_of punctuators.PlusPlus = Some increments.Increment
increment_of punctuators.MinusMinus = Some increments.Decrement
