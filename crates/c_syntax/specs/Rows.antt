-- Short programs' parts with their trees, by the rules of C (C11, 6.5 and 6.8.4.1). Each is one
-- letter a name, and its tokens are one byte apart.
use Rattle.std.specs.Prelude.{ℕ, ◌+◌, List, [], ◌∷◌, None}
use Rattle.c_lex.specs.declared.keyword.Keyword.{Keyword}
use Rattle.c_lex.specs.declared.keyword.Keyword.TheVariants as keywords
use Rattle.c_lex.specs.declared.punctuator.Punctuator.{Punctuator}
use Rattle.c_lex.specs.declared.punctuator.Punctuator.TheVariants as punctuators
use Rattle.c_lex.specs.declared.token.Kind.TheVariants as kinds
use Rattle.c_lex.specs.declared.token.Token.{Token}
use Rattle.c_syntax.specs.declared.operator.Arithmetic.TheVariants as arithmetic
use Rattle.c_syntax.specs.declared.operator.BinaryOperator.TheVariants as binary
use Rattle.c_syntax.specs.declared.operator.UnaryOperator.TheVariants as unary
use Rattle.c_syntax.specs.declared.expression.Base.TheVariants as bases
use Rattle.c_syntax.specs.declared.expression.Identifier.{Identifier}
use Rattle.c_syntax.specs.Expression.{Expression, Variable, Index, Unary, Cast, Call, Binary}
use Rattle.c_syntax.specs.Expression.{Conditional, Assign, Next, Done}
use Rattle.c_syntax.specs.Expressions.{Derives}
use Rattle.c_syntax.specs.Operators.{comma}
use Rattle.c_syntax.specs.Statement.{If, IfElse, Evaluate}
use Rattle.c_syntax.specs.Statements.{IsBlockItem}
use Rattle.c_syntax.specs.Tokens.{token}

abbrev name : ℕ → Identifier
name at = record { start = at; end = at + 1 }

abbrev variable : ℕ → Expression
variable at = Variable (name at)

abbrev letter : ℕ → Token
letter at = token kinds.Identifier at (at + 1)

abbrev punctuator : Punctuator → ℕ → Token
punctuator s at = token (kinds.Punctuator s) at (at + 1)

abbrev keyword : Keyword → ℕ → ℕ → Token
keyword k at end = token (kinds.Keyword k) at end

abbrev IsExpression : Expression → List Token → Type 0
IsExpression e ts = Derives [] comma e ts []

-- a-b-c is (a-b)-c
abbrev pub Differences : Type 0
Differences =
    IsExpression
    (Binary (Binary (variable 0) 1 (binary.Arithmetic arithmetic.Subtract) (variable 2)) 3
    (binary.Arithmetic arithmetic.Subtract) (variable 4))
    (letter 0 ∷ punctuator punctuators.Minus 1 ∷ letter 2 ∷ punctuator punctuators.Minus 3
    ∷ letter 4 ∷ [])

-- a-b*c is a-(b*c)
abbrev pub Product : Type 0
Product =
    IsExpression
    (Binary (variable 0) 1 (binary.Arithmetic arithmetic.Subtract)
    (Binary (variable 2) 3 (binary.Arithmetic arithmetic.Multiply) (variable 4)))
    (letter 0 ∷ punctuator punctuators.Minus 1 ∷ letter 2 ∷ punctuator punctuators.Star 3 ∷ letter 4
    ∷ [])

-- (int*)a[b] casts a[b]
abbrev pub CastOfElement : Type 0
CastOfElement =
    IsExpression
    (Cast 0 (record { base = bases.Int; pointers = 1 }) (Index (variable 6) 7 (variable 8)))
    (punctuator punctuators.OpenParenthesis 0 ∷ keyword keywords.Int 1 4
    ∷ punctuator punctuators.Star 4 ∷ punctuator punctuators.CloseParenthesis 5 ∷ letter 6
    ∷ punctuator punctuators.OpenBracket 7 ∷ letter 8 ∷ punctuator punctuators.CloseBracket 9
    ∷ [])

-- a?b:c?d:e is a?b:(c?d:e)
abbrev pub Choices : Type 0
Choices =
    IsExpression
    (Conditional (variable 0) 1 (variable 2) (Conditional (variable 4) 5 (variable 6) (variable 8)))
    (letter 0 ∷ punctuator punctuators.Question 1 ∷ letter 2 ∷ punctuator punctuators.Colon 3
    ∷ letter 4 ∷ punctuator punctuators.Question 5 ∷ letter 6
    ∷ punctuator punctuators.Colon 7 ∷ letter 8 ∷ [])

-- a=b=c is a=(b=c)
abbrev pub Assignments : Type 0
Assignments =
    IsExpression
    (Assign (variable 0) 1 None (Assign (variable 2) 3 None (variable 4)))
    (letter 0 ∷ punctuator punctuators.Assign 1 ∷ letter 2 ∷ punctuator punctuators.Assign 3
    ∷ letter 4 ∷ [])

-- f(a,-b) has two arguments
abbrev pub TwoArguments : Type 0
TwoArguments =
    IsExpression
    (Call (name 0) (Next (variable 2) (Next (Unary 4 unary.Minus (variable 5)) Done)))
    (letter 0 ∷ punctuator punctuators.OpenParenthesis 1 ∷ letter 2 ∷ punctuator punctuators.Comma 3
    ∷ punctuator punctuators.Minus 4 ∷ letter 5 ∷ punctuator punctuators.CloseParenthesis 6
    ∷ [])

-- the `else` of if(a)if(b);else; is that of the second `if`
abbrev pub NearestIf : Type 0
NearestIf =
    IsBlockItem
    []
    (If 0 (variable 3) (IfElse 5 (variable 8) (Evaluate None) (Evaluate None)))
    (keyword keywords.If 0 2 ∷ punctuator punctuators.OpenParenthesis 2 ∷ letter 3
    ∷ punctuator punctuators.CloseParenthesis 4 ∷ keyword keywords.If 5 7
    ∷ punctuator punctuators.OpenParenthesis 7 ∷ letter 8
    ∷ punctuator punctuators.CloseParenthesis 9 ∷ punctuator punctuators.Semicolon 10
    ∷ keyword keywords.Else 11 15 ∷ punctuator punctuators.Semicolon 15 ∷ [])
    []

-- and not that of the first
abbrev pub NoOtherIf : Type 0
NoOtherIf =
    (ts rest : List Token) → IsBlockItem [] (IfElse 0 (variable 3)
    (If 5 (variable 8) (Evaluate None)) (Evaluate None)) ts rest → ⊥
