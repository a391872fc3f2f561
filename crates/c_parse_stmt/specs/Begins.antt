-- What can begin with the first of some tokens, whatever follows it.
use Rattle.std.specs.Prelude.{◌≡◌, ℕ, List, [], ◌∷◌, ◌++◌, IsFalse}
use Rattle.c_lex.specs.declared.token.Kind.{Kind}
use Rattle.c_lex.specs.declared.token.Kind.TheVariants as kinds
use Rattle.c_lex.specs.declared.token.Token.{Token}
use Rattle.c_syntax.specs.Expression.{Expression, height}
use Rattle.c_syntax.specs.Expressions.{Derives}
use Rattle.c_syntax.specs.Faults.{SameFirst, Speaks}
use Rattle.c_syntax.specs.Operators.{comma}
use Rattle.c_syntax.specs.Statement.{Statement}
use Rattle.c_syntax.specs.Statements.{is_declaration, IsBlockItem}

-- how many expressions at least are around a part of one that begins with a token of this kind
abbrev pub over_first : Kind → ℕ
over_first kinds.Identifier = 0
over_first (kinds.Keyword k) = 0
over_first (kinds.Reserved r) = 0
over_first (kinds.Integer value type) = 0
over_first (kinds.CharacterConstant value) = 0
over_first (kinds.Punctuator s) = 1

abbrev pub first_over : List Token → ℕ
first_over [] = 0
first_over (t ∷ ts) = over_first t.kind

-- There is a first token, and something holds of it.
pub record HasFirst (Holds : Token → Type 0) (ts : List Token) : Type 0 where
  pub first : Token
  pub rest : List Token
  pub split : ts ≡ first ∷ rest
  pub holds : Holds first

-- an expression that begins with a token, with no more expressions around each part than there have
-- to be
pub record Expressed (text : List ℕ) (t : Token) : Type 0 where
  pub more : List Token
  pub tree : Expression
  pub derives : (other : List Token) → Derives text comma tree (t ∷ more ++ other) other
  pub over : height tree ≡ over_first t.kind

abbrev pub BeginsExpression : List Token → Type 0
BeginsExpression = HasFirst (λ t. (text : List ℕ) → Speaks text → Expressed text t)

abbrev pub BeginsNoExpression : List Token → Type 0
BeginsNoExpression ts =
    (text : List ℕ) (other : List Token) → SameFirst ts other → (e : Expression) (rest : List Token)
    → Derives text comma e other rest → ⊥

-- a statement that begins with a token, and isn't a declaration
pub record Stated (text : List ℕ) (t : Token) : Type 0 where
  pub more : List Token
  pub tree : Statement
  pub is : (other : List Token) → IsBlockItem text tree (t ∷ more ++ other) other
  pub statement : IsFalse (is_declaration tree)

abbrev pub BeginsStatement : List Token → Type 0
BeginsStatement = HasFirst (λ t. (text : List ℕ) → Speaks text → Stated text t)

abbrev pub BeginsNoStatement : List Token → Type 0
BeginsNoStatement ts =
    (text : List ℕ) (other : List Token) → SameFirst ts other → (s : Statement) (rest : List Token)
    → IsBlockItem text s other rest → IsFalse (is_declaration s) → ⊥
