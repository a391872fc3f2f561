-- No other punctuator is an operator.
use Rattle.std.proofs.Common.{◌≡◌, Option, Some, None, ap}
use Rattle.c_lex.specs.declared.punctuator.Punctuator.{Punctuator}
use Rattle.c_lex.specs.declared.punctuator.Punctuator.TheVariants as punctuators
use Rattle.c_syntax.specs.declared.operator.Arithmetic.{Arithmetic}
use Rattle.c_syntax.specs.declared.operator.Arithmetic.TheVariants as arithmetic
use Rattle.c_syntax.specs.declared.operator.Comparison.TheVariants as comparisons
use Rattle.c_syntax.specs.declared.operator.BinaryOperator.{BinaryOperator}
use Rattle.c_syntax.specs.declared.operator.BinaryOperator.TheVariants as binary
use Rattle.c_syntax.specs.declared.operator.UnaryOperator.{UnaryOperator}
use Rattle.c_syntax.specs.declared.operator.UnaryOperator.TheVariants as unary_operators
use Rattle.c_syntax.specs.declared.operator.Increment.{Increment}
use Rattle.c_syntax.specs.declared.operator.Increment.TheVariants as increments
use Rattle.c_syntax.specs.Operators.{binary_punctuator, assignment_punctuator, unary_punctuator}
use Rattle.c_syntax.specs.Operators.{increment_punctuator}
use Rattle.c_syntax.specs.PunctuatorReaders.{binary_of, assignment_of, unary_of, increment_of}

some_same : {A : Type 0} (a b : A) → Some a ≡ Some b → a ≡ b
some_same a b e = cc

pub binary_only : (op : BinaryOperator) (s : Punctuator) → binary_of s ≡ Some op
    → s ≡ binary_punctuator op
binary_only op punctuators.BarBar e = ap binary_punctuator (some_same binary.LogicalOr op e)
binary_only op punctuators.AmpersandAmpersand e =
    ap binary_punctuator (some_same binary.LogicalAnd op e)
binary_only op punctuators.Bar e =
    ap binary_punctuator (some_same (binary.Arithmetic arithmetic.Or) op e)
binary_only op punctuators.Caret e =
    ap binary_punctuator (some_same (binary.Arithmetic arithmetic.ExclusiveOr) op e)
binary_only op punctuators.Ampersand e =
    ap binary_punctuator (some_same (binary.Arithmetic arithmetic.And) op e)
binary_only op punctuators.Equal e =
    ap binary_punctuator (some_same (binary.Comparison comparisons.Equal) op e)
binary_only op punctuators.NotEqual e =
    ap binary_punctuator (some_same (binary.Comparison comparisons.NotEqual) op e)
binary_only op punctuators.Less e =
    ap binary_punctuator (some_same (binary.Comparison comparisons.Less) op e)
binary_only op punctuators.Greater e =
    ap binary_punctuator (some_same (binary.Comparison comparisons.Greater) op e)
binary_only op punctuators.LessEqual e =
    ap binary_punctuator (some_same (binary.Comparison comparisons.LessEqual) op e)
binary_only op punctuators.GreaterEqual e =
    ap binary_punctuator (some_same (binary.Comparison comparisons.GreaterEqual) op e)
binary_only op punctuators.ShiftLeft e =
    ap binary_punctuator (some_same (binary.Arithmetic arithmetic.ShiftLeft) op e)
binary_only op punctuators.ShiftRight e =
    ap binary_punctuator (some_same (binary.Arithmetic arithmetic.ShiftRight) op e)
binary_only op punctuators.Plus e =
    ap binary_punctuator (some_same (binary.Arithmetic arithmetic.Add) op e)
binary_only op punctuators.Minus e =
    ap binary_punctuator (some_same (binary.Arithmetic arithmetic.Subtract) op e)
binary_only op punctuators.Star e =
    ap binary_punctuator (some_same (binary.Arithmetic arithmetic.Multiply) op e)
binary_only op punctuators.Slash e =
    ap binary_punctuator (some_same (binary.Arithmetic arithmetic.Divide) op e)
binary_only op punctuators.Percent e =
    ap binary_punctuator (some_same (binary.Arithmetic arithmetic.Remainder) op e)
binary_only op s e = absurd cc

pub assignment_only : (op : Option Arithmetic) (s : Punctuator) → assignment_of s ≡ Some op
    → s ≡ assignment_punctuator op
assignment_only op punctuators.Assign e = ap assignment_punctuator (some_same None op e)
assignment_only op punctuators.PlusAssign e =
    ap assignment_punctuator (some_same (Some arithmetic.Add) op e)
assignment_only op punctuators.MinusAssign e =
    ap assignment_punctuator (some_same (Some arithmetic.Subtract) op e)
assignment_only op punctuators.StarAssign e =
    ap assignment_punctuator (some_same (Some arithmetic.Multiply) op e)
assignment_only op punctuators.SlashAssign e =
    ap assignment_punctuator (some_same (Some arithmetic.Divide) op e)
assignment_only op punctuators.PercentAssign e =
    ap assignment_punctuator (some_same (Some arithmetic.Remainder) op e)
assignment_only op punctuators.AmpersandAssign e =
    ap assignment_punctuator (some_same (Some arithmetic.And) op e)
assignment_only op punctuators.BarAssign e =
    ap assignment_punctuator (some_same (Some arithmetic.Or) op e)
assignment_only op punctuators.CaretAssign e =
    ap assignment_punctuator (some_same (Some arithmetic.ExclusiveOr) op e)
assignment_only op punctuators.ShiftLeftAssign e =
    ap assignment_punctuator (some_same (Some arithmetic.ShiftLeft) op e)
assignment_only op punctuators.ShiftRightAssign e =
    ap assignment_punctuator (some_same (Some arithmetic.ShiftRight) op e)
assignment_only op s e = absurd cc

pub unary_only : (op : UnaryOperator) (s : Punctuator) → unary_of s ≡ Some op
    → s ≡ unary_punctuator op
unary_only op punctuators.Ampersand e =
    ap unary_punctuator (some_same unary_operators.AddressOf op e)
unary_only op punctuators.Plus e = ap unary_punctuator (some_same unary_operators.Plus op e)
unary_only op punctuators.Minus e = ap unary_punctuator (some_same unary_operators.Minus op e)
unary_only op punctuators.Star e = ap unary_punctuator (some_same unary_operators.Indirection op e)
unary_only op punctuators.Exclamation e =
    ap unary_punctuator (some_same unary_operators.LogicalNot op e)
unary_only op punctuators.Tilde e = ap unary_punctuator (some_same unary_operators.Complement op e)
unary_only op s e = absurd cc

pub increment_only : (op : Increment) (s : Punctuator) → increment_of s ≡ Some op
    → s ≡ increment_punctuator op
increment_only op punctuators.PlusPlus e =
    ap increment_punctuator (some_same increments.Increment op e)
increment_only op punctuators.MinusMinus e =
    ap increment_punctuator (some_same increments.Decrement op e)
increment_only op s e = absurd cc
