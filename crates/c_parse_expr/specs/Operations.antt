-- What punctuators after operands begin (C11, 6.5.2 and 6.5.5 to 6.5.17).
use Rattle.std.specs.Prelude.{ℕ, ◌-◌, Option, Some, None, option_map}
use Rattle.c_lex.specs.declared.punctuator.Punctuator.{Punctuator}
use Rattle.c_lex.specs.declared.punctuator.Punctuator.TheVariants as punctuators
use Rattle.c_syntax.specs.declared.operator.Arithmetic.{Arithmetic}
use Rattle.c_syntax.specs.declared.operator.BinaryOperator.{BinaryOperator}
use Rattle.c_syntax.specs.declared.operator.Increment.{Increment}
use Rattle.c_syntax.specs.Expression.{Expression}
use Rattle.c_syntax.specs.Operators.{postfix, unary, logical_or, assignment, comma, level, binary_punctuator, increment_punctuator, assignment_punctuator}
use Rattle.c_syntax.specs.PunctuatorReaders.{binary_of, increment_of, assignment_of}
use Rattle.c_syntax.specs.Steps as steps
use Rattle.c_parse_expr.specs.declared.step.Infix.{Infix as Infix'}
use Rattle.c_parse_expr.specs.declared.step.Infix.TheVariants.{Binary, Assign, Comma}
use Rattle.c_parse_expr.specs.declared.step.Operation.{Operation}
use Rattle.c_parse_expr.specs.declared.step.Operation.TheVariants.{Index, Postfix, Infix, Conditional}

-- ---- by punctuators

abbrev pub or_assignment : Option BinaryOperator → Option (Option Arithmetic) → Option Infix'
or_assignment (Some op) o = Some (Binary op)
or_assignment None o = option_map Assign o

abbrev pub infix_of : Punctuator → Option Infix'
infix_of s = or_assignment (binary_of s) (assignment_of s)

abbrev pub or_infix : Option Increment → Option Infix' → Option Operation
or_infix (Some op) o = Some (Postfix op)
or_infix None o = option_map Infix o

abbrev pub operation_of : Punctuator → Option Operation
operation_of punctuators.OpenBracket = Some Index
operation_of punctuators.Question = Some Conditional
operation_of punctuators.Comma = Some (Infix Comma)
operation_of s = or_infix (increment_of s) (infix_of s)

-- the punctuator that begins it
abbrev pub infix_punctuator : Infix' → Punctuator
infix_punctuator (Binary op) = binary_punctuator op
infix_punctuator (Assign op) = assignment_punctuator op
infix_punctuator Comma = punctuators.Comma

abbrev pub punctuator : Operation → Punctuator
punctuator Index = punctuators.OpenBracket
punctuator (Postfix op) = increment_punctuator op
punctuator (Infix op) = infix_punctuator op
punctuator Conditional = punctuators.Question

-- ---- levels

abbrev pub left : Infix' → ℕ
left (Binary op) = level op
left (Assign op) = unary
left Comma = comma

abbrev pub right : Infix' → ℕ
right (Binary op) = level op - 1
right (Assign op) = assignment
right Comma = assignment

-- the loosest level of the operand before
abbrev pub bound : Operation → ℕ
bound Index = postfix
bound (Postfix op) = postfix
bound (Infix op) = left op
bound Conditional = logical_or

-- ---- steps

abbrev pub with : Infix' → ℕ → Expression → steps.Step
with (Binary op) at e = steps.With at op e
with (Assign op) at e = steps.Set at op e
with Comma at e = steps.And at e

abbrev pub operation : steps.Step → Operation
operation (steps.At at i) = Index
operation (steps.After op at) = Postfix op
operation (steps.With at op e) = Infix (Binary op)
operation (steps.Choose at a b) = Conditional
operation (steps.Set at op e) = Infix (Assign op)
operation (steps.And at e) = Infix Comma

-- the place of its punctuator
abbrev pub place : steps.Step → ℕ
place (steps.At at i) = at
place (steps.After op at) = at
place (steps.With at op e) = at
place (steps.Choose at a b) = at
place (steps.Set at op e) = at
place (steps.And at e) = at
