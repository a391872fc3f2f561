-- An expression from left to right: its first operand, and the steps after it.
--
-- `Step`, `Run`: an expression from left to right, its first operand and one step after the other
-- (an index, `++`, an operator with its right operand, `?:`). Each left part that was read is one
-- that every expression there goes through.
use Rattle.std.specs.Prelude.{◌≡◌, ◌≤◌, ◌<◌, ◌-◌, ℕ, List, [], ◌∷◌, Option}
use Rattle.c_lex.specs.declared.punctuator.Punctuator.TheVariants as punctuators
use Rattle.c_lex.specs.declared.token.Token.{Token}
use Rattle.c_syntax.specs.declared.operator.Arithmetic.{Arithmetic}
use Rattle.c_syntax.specs.declared.operator.BinaryOperator.{BinaryOperator}
use Rattle.c_syntax.specs.declared.operator.Increment.{Increment}
use Rattle.c_syntax.specs.Expression.{Expression, Constant, Variable, Information, Call}
use Rattle.c_syntax.specs.Expression.{Parentheses, Index, Postfix, Prefix, Unary, Cast, Binary}
use Rattle.c_syntax.specs.Expression.{Conditional, Assign, Comma}
use Rattle.c_syntax.specs.Expressions.{rank, TighterThan, IsApplied, SpellsExpression, Derives}
use Rattle.c_syntax.specs.Follow.{follows}
use Rattle.c_syntax.specs.Operators.{primary, postfix, unary, cast, logical_or, conditional}
use Rattle.c_syntax.specs.Operators.{assignment, comma, level, binary_punctuator}
use Rattle.c_syntax.specs.Operators.{increment_punctuator, assignment_punctuator}
use Rattle.c_syntax.specs.Phrases.{IsEnclosed}
use Rattle.c_syntax.specs.Tokens.{Phrase, IsPunctuator}

-- ---- what is after an operand

pub data Step : Type 0 where
  At : ℕ → Expression → Step
  After : Increment → ℕ → Step
  With : ℕ → BinaryOperator → Expression → Step
  Choose : ℕ → Expression → Expression → Step
  Set : ℕ → Option Arithmetic → Expression → Step
  And : ℕ → Expression → Step

abbrev pub apply : Expression → Step → Expression
apply e (At at i) = Index e at i
apply e (After op at) = Postfix e op at
apply e (With at op f) = Binary e at op f
apply e (Choose at f g) = Conditional e at f g
apply e (Set at op f) = Assign e at op f
apply e (And at f) = Comma e at f

-- the loosest level of the operand
abbrev pub bound : Step → ℕ
bound (At at i) = postfix
bound (After op at) = postfix
bound (With at op f) = level op
bound (Choose at f g) = logical_or
bound (Set at op f) = unary
bound (And at f) = comma

-- the tokens of a step
abbrev pub Tail : List ℕ → Step → Phrase
Tail text (At at i) =
    IsEnclosed (IsPunctuator punctuators.OpenBracket at) (SpellsExpression text i)
    punctuators.CloseBracket
Tail text (After op at) = IsPunctuator (increment_punctuator op) at
Tail text (With at op f) =
    IsApplied (IsPunctuator (binary_punctuator op) at)
    (TighterThan (level op) f (SpellsExpression text f))
Tail text (Choose at f g) =
    IsApplied
    (IsEnclosed (IsPunctuator punctuators.Question at) (SpellsExpression text f) punctuators.Colon)
    (Derives text conditional g)
Tail text (Set at op f) =
    IsApplied (IsPunctuator (assignment_punctuator op) at) (Derives text assignment f)
Tail text (And at f) = IsApplied (IsPunctuator punctuators.Comma at) (Derives text assignment f)

-- a step after the operand on its left, and the others after it
pub record RunsOn (text : List ℕ) (left : Expression) (s : Step) (Others : List Token → Type 0)
    (ts : List Token) : Type 0 where
  pub after_step : List Token
  pub fits : rank left ≤ bound s
  pub step : Tail text s ts after_step
  pub others : Others after_step

-- steps from the operand on the left to the whole expression and its end
abbrev pub Run : List ℕ → Expression → List Step → List Token → Expression → List Token → Type 0
Run text left [] ts e end = (left ≡ e) × (ts ≡ end)
Run text left (s ∷ steps) ts e end =
    RunsOn text left s (λ mid. Run text (apply left s) steps mid e end) ts

abbrev pub IsOperandAlone : Expression → Type 0
IsOperandAlone (Constant at literal) = Unit {0}
IsOperandAlone (Variable name) = Unit {0}
IsOperandAlone (Information at field) = Unit {0}
IsOperandAlone (Call name es) = Unit {0}
IsOperandAlone (Parentheses at e) = Unit {0}
IsOperandAlone (Index a at i) = ⊥
IsOperandAlone (Postfix e op at) = ⊥
IsOperandAlone (Prefix at op e) = Unit {0}
IsOperandAlone (Unary at op e) = Unit {0}
IsOperandAlone (Cast at to e) = Unit {0}
IsOperandAlone (Binary a at op b) = ⊥
IsOperandAlone (Conditional c at a b) = ⊥
IsOperandAlone (Assign a at op b) = ⊥
IsOperandAlone (Comma a at b) = ⊥

-- what follows doesn't continue with the last operand, nor make a call of a name
abbrev pub Closes : Expression → List Token → Type 0
Closes (Constant at literal) ts = Unit {0}
Closes (Variable name) ts = primary < follows ts
Closes (Information at field) ts = Unit {0}
Closes (Call name es) ts = Unit {0}
Closes (Parentheses at e) ts = Unit {0}
Closes (Index a at i) ts = Unit {0}
Closes (Postfix e op at) ts = Unit {0}
Closes (Prefix at op e) ts = unary < follows ts
Closes (Unary at op e) ts = cast < follows ts
Closes (Cast at to e) ts = cast < follows ts
Closes (Binary a at op b) ts = level op - 1 < follows ts
Closes (Conditional c at a b) ts = conditional < follows ts
Closes (Assign a at op b) ts = assignment < follows ts
Closes (Comma a at b) ts = assignment < follows ts
