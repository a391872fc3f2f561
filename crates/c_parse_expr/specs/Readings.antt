-- What is at the front of tokens; that nothing of the kind is there; and that tokens are such a
-- phrase, whatever follows. The first n limits are in force.
use Rattle.std.specs.Prelude.{◌≡◌, ◌≤◌, ◌-◌, ◌⊎◌, ℕ, List, [], ◌∷◌, ◌++◌, Some}
use Rattle.c_lex.specs.declared.punctuator.Punctuator.{Punctuator}
use Rattle.c_lex.specs.declared.punctuator.Punctuator.TheVariants as punctuators
use Rattle.c_lex.specs.declared.token.Token.{Token}
use Rattle.c_syntax.specs.declared.expression.Field.{Field}
use Rattle.c_syntax.specs.Limits.{Nesting, IsInForce}
use Rattle.c_syntax.specs.Expression.{Expression, Information, Arguments, height, heights}
use Rattle.c_syntax.specs.Expressions.{rank, IsApplied, IsField, AreArguments, SpellsExpression, SpellsArguments, Derives}
use Rattle.c_syntax.specs.Faults.{SameFirst, Speaks, Onward}
use Rattle.c_syntax.specs.Follow.{Stops}
use Rattle.c_syntax.specs.declared.operator.Increment.{Increment}
use Rattle.c_syntax.specs.declared.operator.UnaryOperator.{UnaryOperator}
use Rattle.c_syntax.specs.Operators.{level, conditional, assignment}
use Rattle.c_syntax.specs.Phrases.{IsAnother}
use Rattle.c_syntax.specs.PunctuatorReaders.{increment_of, unary_of}
use Rattle.c_syntax.specs.Steps.{Step, At, After, With, Choose, Set, And, apply, bound, Tail, IsOperandAlone, Closes}
use Rattle.c_syntax.specs.Tokens.{IsPunctuator, HasPunctuator}
use Rattle.c_parse_expr.specs.declared.step.Operation.{Operation}
use Rattle.c_parse_expr.specs.Operations.{operation, place, punctuator}
use Rattle.c_parse_expr.specs.Steps.{over}

-- an expression of a level, as far as it goes
pub record DerivesAndStops (text : List ℕ) (l : ℕ) (e : Expression)
    (ts rest : List Token) : Type 0 where
  pub derives : Derives text l e ts rest
  pub stops : Stops l rest

-- no expression of a level is at the front that nothing continues with, with at most so many
-- expressions around each part
abbrev pub NoExpression : ℕ → ℕ → ℕ → List ℕ → List Token → Type 0
NoExpression l room n text ts =
    (e : Expression) (end : List Token) → Derives text l e ts end → Stops l end
    → (IsInForce Nesting n → height e ≤ room) → ⊥

pub record HasExpression (l room n : ℕ) (text : List ℕ) (ts : List Token) : Type 0 where
  pub tree : Expression
  pub derives : (other : List Token) → Derives text l tree (ts ++ other) other
  pub low : IsInForce Nesting n → height tree ≤ room

-- ---- an expression and the punctuator that ends it

pub record Encloses (text : List ℕ) (close : Punctuator) (e : Expression)
    (ts rest : List Token) : Type 0 where
  pub mid : List Token
  pub spells : SpellsExpression text e ts mid
  pub closed : HasPunctuator close mid rest

abbrev pub NoneEnclosed : Punctuator → ℕ → ℕ → List ℕ → List Token → Type 0
NoneEnclosed close room n text ts =
    (e : Expression) (end : List Token) → Encloses text close e ts end
    → (IsInForce Nesting n → height e ≤ room) → ⊥

pub record HasEnclosed (close : Punctuator) (room n : ℕ) (text : List ℕ)
    (ts : List Token) : Type 0 where
  pub tree : Expression
  pub encloses : (other : List Token) → Encloses text close tree (ts ++ other) other
  pub low : IsInForce Nesting n → height tree ≤ room

-- ---- arguments, and the parenthesis after them

abbrev pub NoArguments : ℕ → ℕ → List ℕ → List Token → Type 0
NoArguments room n text ts =
    (es : Arguments) (end : List Token) → SpellsArguments text es ts end
    → (IsInForce Nesting n → heights es ≤ room) → ⊥

pub record HasArguments (room n : ℕ) (text : List ℕ) (ts : List Token) : Type 0 where
  pub trees : Arguments
  pub spells : (other : List Token) → SpellsArguments text trees (ts ++ other) other
  pub low : IsInForce Nesting n → heights trees ≤ room

-- expressions with commas between them
abbrev pub AreMoreExpressions : List ℕ → List Expression → List Token → List Token → Type 0
AreMoreExpressions text [] ts rest = ts ≡ rest
AreMoreExpressions text (e ∷ es) ts rest =
    IsAnother (Derives text assignment e) (AreMoreExpressions text es) ts rest

abbrev pub AreListed : List ℕ → List Expression → List Token → List Token → Type 0
AreListed text [] ts rest = ⊥
AreListed text (e ∷ es) ts rest = AreArguments (Derives text assignment e)
    (AreMoreExpressions text es) ts rest

-- ---- the first operand of an expression of a level

pub record IsOperand (text : List ℕ) (l : ℕ) (e : Expression) (ts rest : List Token) : Type 0 where
  pub derives : Derives text l e ts rest
  pub head : IsOperandAlone e
  pub closes : Closes e rest

abbrev pub NoOperand : ℕ → ℕ → ℕ → List ℕ → List Token → Type 0
NoOperand l room n text ts =
    (e : Expression) (end : List Token) → IsOperand text l e ts end
    → (IsInForce Nesting n → height e ≤ room) → ⊥

-- ---- a step after an operand

pub record IsStep (text : List ℕ) (operand : Expression) (s : Step)
    (ts rest : List Token) : Type 0 where
  pub fits : rank operand ≤ bound s
  pub tail : Tail text s ts rest
  pub closes : Closes (apply operand s) rest

abbrev pub NoStep : ℕ → Expression → ℕ → List ℕ → List Token → Type 0
NoStep room operand n text ts =
    (s : Step) (end : List Token) → IsStep text operand s ts end
    → (IsInForce Nesting n → height (apply operand s) ≤ room) → ⊥

pub record AStep (room : ℕ) (operand : Expression) (l n : ℕ) (text : List ℕ)
    (ts : List Token) : Type 0 where
  pub step : Step
  pub fits : rank operand ≤ bound step
  pub loose : rank (apply operand step) ≤ l
  pub tail : (other : List Token) → Tail text step (ts ++ other) other
  pub low : IsInForce Nesting n → height (apply operand step) ≤ room

-- of a level or a tighter one; the operand may be alone
abbrev pub HasStep : ℕ → Expression → ℕ → ℕ → List ℕ → List Token → Type 0
HasStep room operand l n text ts = (ts ≡ []) ⊎ AStep room operand l n text ts

-- ---- what follows the punctuator of a step

abbrev pub AfterPunctuator : List ℕ → Step → List Token → List Token → Type 0
AfterPunctuator text (At at i) ts rest = Encloses text punctuators.CloseBracket i ts rest
AfterPunctuator text (After op at) ts rest = ts ≡ rest
AfterPunctuator text (With at op e) ts rest = DerivesAndStops text (level op - 1) e ts rest
AfterPunctuator text (Choose at a b) ts rest =
    IsApplied (Encloses text punctuators.Colon a) (DerivesAndStops text conditional b) ts rest
AfterPunctuator text (Set at op e) ts rest = DerivesAndStops text assignment e ts rest
AfterPunctuator text (And at e) ts rest = DerivesAndStops text assignment e ts rest

pub record IsAfterPunctuator (text : List ℕ) (o : Operation) (at : ℕ) (s : Step)
    (ts rest : List Token) : Type 0 where
  pub operation : operation s ≡ o
  pub place : place s ≡ at
  pub following : AfterPunctuator text s ts rest

abbrev pub NoneAfterPunctuator : ℕ → Operation → ℕ → List ℕ → List Token → Type 0
NoneAfterPunctuator room o n text ts =
    (s : Step) (end : List Token) → operation s ≡ o → AfterPunctuator text s ts end
    → (IsInForce Nesting n → over s ≤ room) → ⊥

-- after the punctuator at a place
pub record HasAfterPunctuator (room : ℕ) (o : Operation) (at n : ℕ) (text : List ℕ)
    (ts : List Token) : Type 0 where
  pub step : Step
  pub operation : operation step ≡ o
  pub tail : (begin other : List Token) → IsPunctuator (punctuator o) at begin (ts ++ other)
      → Tail text step begin other
  pub low : IsInForce Nesting n → over step ≤ room

-- ---- the field of an exception's record that is read

abbrev pub NoField : ℕ → List ℕ → List Token → Type 0
NoField n text ts = (field : Field) (end : List Token) → IsField text field ts end → ⊥

pub record HasField (n : ℕ) (text : List ℕ) (ts : List Token) : Type 0 where
  pub field : Field
  pub is : (other : List Token) → IsField text field (ts ++ other) other

abbrev pub NoInformation : ℕ → List ℕ → List Token → Type 0
NoInformation n text ts =
    (at : ℕ) (field : Field) (end : List Token)
    → SpellsExpression text (Information at field) ts end → ⊥

pub record HasInformation (n : ℕ) (text : List ℕ) (ts : List Token) : Type 0 where
  pub at : ℕ
  pub field : Field
  pub spells : (other : List Token) → SpellsExpression text (Information at field)
      (ts ++ other) other

-- ---- the first token

-- some expression begins with it
abbrev pub CanBeginExpression : List Token → Type 0
CanBeginExpression ts = (text : List ℕ) → Speaks text
    → Onward (HasExpression assignment 0) 0 text [] ts

-- no expression begins with it
abbrev pub NeverBegins : List Token → Type 0
NeverBegins ts =
    (text : List ℕ) (other : List Token) → SameFirst ts other → (e : Expression) (end : List Token)
    → SpellsExpression text e other end → ⊥

-- a punctuator that begins an operand
pub data BeginsOperand (s : Punctuator) : Type 0 where
  Parenthesis : s ≡ punctuators.OpenParenthesis → BeginsOperand s
  Steps : (op : Increment) → increment_of s ≡ Some op → BeginsOperand s
  Operates : (op : UnaryOperator) → unary_of s ≡ Some op → BeginsOperand s
