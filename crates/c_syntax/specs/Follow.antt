-- How an expression continues, and where it ends.
--
-- The main definition: `follows`.
use Rattle.std.specs.Prelude.{◌≡◌, ◌<◌, ℕ, IsTrue, List, [], ◌∷◌}
use Rattle.c_lex.specs.declared.punctuator.Punctuator.{Punctuator}
use Rattle.c_lex.specs.declared.punctuator.Punctuator.TheVariants as punctuators
use Rattle.c_lex.specs.declared.token.Kind.{Kind}
use Rattle.c_lex.specs.declared.token.Kind.TheVariants as kinds
use Rattle.c_lex.specs.declared.token.Token.{Token}
use Rattle.c_syntax.specs.declared.level.TheConstants as levels
use Rattle.c_syntax.specs.Expression.{Expression, start}
use Rattle.c_lex.specs.declared.keyword.Keyword.TheVariants as keywords
use Rattle.c_syntax.specs.Expressions.{Derives}
use Rattle.c_syntax.specs.Operators.{primary, postfix, logical_or, conditional, assignment, comma}
use Rattle.c_syntax.specs.Operators.{never}
use Rattle.c_syntax.specs.Statement.{Statement}
use Rattle.c_syntax.specs.Statements.{dangles, IsBlockItem}
use Rattle.c_syntax.specs.Tokens.{HasKeyword}

-- the level of the production in which a punctuator is after an operand, `(` after the name of a
-- call
abbrev pub punctuator_follows : Punctuator → ℕ
punctuator_follows punctuators.OpenParenthesis = primary
punctuator_follows punctuators.CloseParenthesis = never
punctuator_follows punctuators.OpenBracket = postfix
punctuator_follows punctuators.CloseBracket = never
punctuator_follows punctuators.OpenBrace = never
punctuator_follows punctuators.CloseBrace = never
punctuator_follows punctuators.Semicolon = never
punctuator_follows punctuators.Comma = comma
punctuator_follows punctuators.Question = conditional
punctuator_follows punctuators.Colon = never
punctuator_follows punctuators.Arrow = never
punctuator_follows punctuators.Assign = assignment
punctuator_follows punctuators.PlusAssign = assignment
punctuator_follows punctuators.MinusAssign = assignment
punctuator_follows punctuators.StarAssign = assignment
punctuator_follows punctuators.SlashAssign = assignment
punctuator_follows punctuators.PercentAssign = assignment
punctuator_follows punctuators.AmpersandAssign = assignment
punctuator_follows punctuators.BarAssign = assignment
punctuator_follows punctuators.CaretAssign = assignment
punctuator_follows punctuators.ShiftLeftAssign = assignment
punctuator_follows punctuators.ShiftRightAssign = assignment
punctuator_follows punctuators.BarBar = logical_or
punctuator_follows punctuators.AmpersandAmpersand = levels.LOGICAL_AND
punctuator_follows punctuators.Bar = levels.INCLUSIVE_OR
punctuator_follows punctuators.Caret = levels.EXCLUSIVE_OR
punctuator_follows punctuators.Ampersand = levels.AND
punctuator_follows punctuators.Equal = levels.EQUALITY
punctuator_follows punctuators.NotEqual = levels.EQUALITY
punctuator_follows punctuators.Less = levels.RELATIONAL
punctuator_follows punctuators.Greater = levels.RELATIONAL
punctuator_follows punctuators.LessEqual = levels.RELATIONAL
punctuator_follows punctuators.GreaterEqual = levels.RELATIONAL
punctuator_follows punctuators.ShiftLeft = levels.SHIFT
punctuator_follows punctuators.ShiftRight = levels.SHIFT
punctuator_follows punctuators.Plus = levels.ADDITIVE
punctuator_follows punctuators.Minus = levels.ADDITIVE
punctuator_follows punctuators.Star = levels.MULTIPLICATIVE
punctuator_follows punctuators.Slash = levels.MULTIPLICATIVE
punctuator_follows punctuators.Percent = levels.MULTIPLICATIVE
punctuator_follows punctuators.Exclamation = never
punctuator_follows punctuators.Tilde = never
punctuator_follows punctuators.PlusPlus = postfix
punctuator_follows punctuators.MinusMinus = postfix

abbrev pub kind_follows : Kind → ℕ
kind_follows kinds.Identifier = never
kind_follows (kinds.Keyword k) = never
kind_follows (kinds.Reserved r) = never
kind_follows (kinds.Integer value type) = never
kind_follows (kinds.CharacterConstant value) = never
kind_follows (kinds.Punctuator s) = punctuator_follows s

-- the level of the production in which the first token comes after an operand, `never` where it
-- comes after none; an expression `Stops` at a level where this is above it. Such an expression has
-- one tree and one end (`OneExpression`), and so has a statement that no `else` continues
-- (`OneStatement`).
abbrev pub follows : List Token → ℕ
follows [] = never
follows (t ∷ ts) = kind_follows t.kind

-- no expression of the level or a tighter one continues with these tokens
abbrev pub Stops : ℕ → List Token → Type 0
Stops l ts = l < follows ts

-- An expression of a level that stops is found by where it begins: there is one tree at most, and
-- one rest.
abbrev pub OneExpression : Type 0
OneExpression =
    (text : List ℕ) (l : ℕ) (e f : Expression) (ts rest end : List Token) → Derives text l e ts rest
    → Derives text l f ts end → Stops l rest → Stops l end → (e ≡ f) × (rest ≡ end)

-- there is a first token, and it is at a place
pub record StartsAt (at : ℕ) (ts : List Token) : Type 0 where
  pub first : Token
  pub more : List Token
  pub split : ts ≡ first ∷ more
  pub starts : first.start ≡ at

-- The start of an expression is the place of its first token.
abbrev pub ExpressionStart : Type 0
ExpressionStart =
    (text : List ℕ) (l : ℕ) (e : Expression) (ts rest : List Token) → Derives text l e ts rest
    → StartsAt (start e) ts

-- no `else` is at the front
abbrev pub NoElse : List Token → Type 0
NoElse ts = (rest : List Token) → HasKeyword keywords.Else ts rest → ⊥

-- after a statement that ends with an `if` without `else`
abbrev pub Closed : Statement → List Token → Type 0
Closed s rest = IsTrue (dangles s) → NoElse rest

-- A statement that could continue with an `else`, and doesn't, is found by where it begins; each
-- other is too.
abbrev pub OneStatement : Type 0
OneStatement =
    (text : List ℕ) (s z : Statement) (ts rest end : List Token) → IsBlockItem text s ts rest
    → IsBlockItem text z ts end → Closed s rest → Closed z end → (s ≡ z) × (rest ≡ end)
