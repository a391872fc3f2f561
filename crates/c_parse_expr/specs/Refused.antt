-- What a refusal of each reader says.
use Rattle.std.specs.Prelude.{ℕ, List}
use Rattle.c_lex.specs.declared.punctuator.Punctuator.{Punctuator}
use Rattle.c_lex.specs.declared.token.Token.{Token}
use Rattle.c_syntax.specs.Expression.{Expression}
use Rattle.c_syntax.specs.Follow.{follows}
use Rattle.c_parse_expr.specs.declared.refusal.ParseErr.{ParseErr}
use Rattle.c_parse_expr.specs.declared.step.Operation.{Operation}
use Rattle.c_parse_expr.specs.Readings.{NoExpression, HasExpression, NoneEnclosed, HasEnclosed, NoArguments, HasArguments, NoOperand, NoStep, HasStep, NoneAfterPunctuator, HasAfterPunctuator}
use Rattle.c_parse_expr.specs.Refusals.{IsPlacedRefusal}

abbrev pub RefusesExpression : ParseErr → ℕ → ℕ → List ℕ → List Token → Type 0
RefusesExpression e level room text ts =
    IsPlacedRefusal e (NoExpression level room) (HasExpression level room) text ts

abbrev pub RefusesEnclosed : ParseErr → Punctuator → ℕ → List ℕ → List Token → Type 0
RefusesEnclosed e close room text ts =
    IsPlacedRefusal e (NoneEnclosed close room) (HasEnclosed close room) text ts

abbrev pub RefusesArguments : ParseErr → ℕ → List ℕ → List Token → Type 0
RefusesArguments e room text ts = IsPlacedRefusal e (NoArguments room) (HasArguments room) text ts

-- the first operand of an expression of a level
abbrev pub RefusesOperand : ParseErr → ℕ → ℕ → List ℕ → List Token → Type 0
RefusesOperand e level room text ts =
    IsPlacedRefusal e (NoOperand level room) (HasExpression level room) text ts

-- a step after an operand
abbrev pub RefusesStep : ParseErr → ℕ → Expression → List ℕ → List Token → Type 0
RefusesStep e room operand text ts =
    IsPlacedRefusal e (NoStep room operand) (HasStep room operand (follows ts)) text ts

-- what follows the punctuator of an operation, which is at a place
abbrev pub RefusesAfterPunctuator : ParseErr → ℕ → Operation → ℕ → List ℕ → List Token → Type 0
RefusesAfterPunctuator e room operation at text ts =
    IsPlacedRefusal e (NoneAfterPunctuator room operation)
    (HasAfterPunctuator room operation at) text ts
