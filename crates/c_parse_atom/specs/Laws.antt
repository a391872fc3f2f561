-- What holds of every operator.
use Rattle.std.specs.Prelude.{◌≡◌, Option, Some}
use Rattle.c_lex.specs.declared.punctuator.Punctuator.{Punctuator}
use Rattle.c_syntax.specs.declared.operator.Arithmetic.{Arithmetic}
use Rattle.c_syntax.specs.declared.operator.BinaryOperator.{BinaryOperator}
use Rattle.c_syntax.specs.declared.operator.Increment.{Increment}
use Rattle.c_syntax.specs.declared.operator.UnaryOperator.{UnaryOperator}
use Rattle.c_syntax.specs.Operators.{binary_punctuator, assignment_punctuator, unary_punctuator}
use Rattle.c_syntax.specs.Operators.{increment_punctuator}
use Rattle.c_syntax.specs.PunctuatorReaders.{binary_of, assignment_of, unary_of, increment_of}

-- each operator is what its punctuator is
pub record PunctuatorsAgain : Type 0 where
  pub binary : (op : BinaryOperator) → binary_of (binary_punctuator op) ≡ Some op
  pub assignment : (op : Option Arithmetic) → assignment_of (assignment_punctuator op) ≡ Some op
  pub unary : (op : UnaryOperator) → unary_of (unary_punctuator op) ≡ Some op
  pub increment : (op : Increment) → increment_of (increment_punctuator op) ≡ Some op

-- and no other punctuator is
pub record NoOtherPunctuators : Type 0 where
  pub binary : (op : BinaryOperator) (s : Punctuator) → binary_of s ≡ Some op
      → s ≡ binary_punctuator op
  pub assignment : (op : Option Arithmetic) (s : Punctuator) → assignment_of s ≡ Some op
      → s ≡ assignment_punctuator op
  pub unary : (op : UnaryOperator) (s : Punctuator) → unary_of s ≡ Some op
      → s ≡ unary_punctuator op
  pub increment : (op : Increment) (s : Punctuator) → increment_of s ≡ Some op
      → s ≡ increment_punctuator op
