-- Filters that have a number; and that no filter is at the front.
use Rattle.std.specs.Prelude.{◌≡◌, ◌≤◌, ℕ, zero, suc, Bool, true, false, nat_eq, List, [], ◌∷◌, ◌++◌, codes, slice_range}
use Rattle.std.specs.Str.{bytes_eq}
use Rattle.c_lex.specs.declared.punctuator.Punctuator.TheVariants as punctuators
use Rattle.c_lex.specs.declared.token.Kind.{Kind}
use Rattle.c_lex.specs.declared.token.Kind.TheVariants as kinds
use Rattle.c_lex.specs.declared.token.Token.{Token}
use Rattle.c_syntax.specs.declared.expression.Literal.{Literal}
use Rattle.c_syntax.specs.declared.expression.Literal.TheVariants as literals
use Rattle.c_syntax.specs.declared.limit.Count.TheVariants.{Funclets}
use Rattle.c_syntax.specs.declared.limit.TheConstants.{MOST_EXPRESSIONS}
use Rattle.c_syntax.specs.Expression.{Expression, height}
use Rattle.c_syntax.specs.Faults.{Alike, SameFirst, Speaks, Able}
use Rattle.c_syntax.specs.Limits.{Nesting, Number, IsInForce, every_limit, accepts}
use Rattle.c_syntax.specs.Statements.{IsCondition}
use Rattle.c_syntax.specs.Tokens.{HasPunctuator}
use Rattle.c_parse_stmt.specs.Begins.{HasFirst}
use Rattle.c_parse_stmt.specs.Parts.{NoCondition, HasCondition}

abbrev pub is_one : Literal → Bool
is_one (literals.Integer value type) = nat_eq value 1
is_one (literals.CharacterConstant value) = false

-- how many numbers a filter takes, by whether it accepts whatever was raised
abbrev pub numbers_of : Bool → ℕ
numbers_of true = 0
numbers_of false = 1

-- ---- a filter that accepts whatever was raised: a token alone, in parentheses

abbrev pub accepts_kind : List ℕ → Kind → ℕ → ℕ → Bool
accepts_kind text kinds.Identifier start end =
    bytes_eq (slice_range text start end) (codes "EXCEPTION_EXECUTE_HANDLER")
accepts_kind text (kinds.Keyword k) start end = false
accepts_kind text (kinds.Reserved r) start end = false
accepts_kind text (kinds.Integer value type) start end = nat_eq value 1
accepts_kind text (kinds.CharacterConstant value) start end = false
accepts_kind text (kinds.Punctuator s) start end = false

-- the token is such a filter's expression
abbrev pub accepts_alone : List ℕ → Token → Bool
accepts_alone text t = accepts_kind text t.kind t.start t.end

-- opening parentheses
abbrev pub AreOpening : ℕ → List Token → List Token → Type 0
AreOpening zero ts rest = ts ≡ rest
AreOpening (suc n) ts rest =
    (mid : List Token) × HasPunctuator punctuators.OpenParenthesis ts mid × AreOpening n mid rest

-- closing ones, the outermost last
abbrev pub AreClosing : ℕ → List Token → List Token → Type 0
AreClosing zero ts rest = ts ≡ rest
AreClosing (suc n) ts rest =
    (mid : List Token) × AreClosing n ts mid × HasPunctuator punctuators.CloseParenthesis mid rest

-- With a token some condition continues.
pub record Continued (text : List ℕ) (front : List Token) (t : Token) : Type 0 where
  pub more : List Token
  pub has : HasCondition 1 text (front ++ t ∷ more)

-- after so many opening parentheses one does with the first of these tokens
abbrev pub ContinuesInside : ℕ → List Token → Type 0
ContinuesInside opened =
    HasFirst (λ t. (text : List ℕ) (before : List Token) → Speaks text
    → AreOpening opened before [] → Continued text before t)

abbrev pub NoneInside : ℕ → List Token → Type 0
NoneInside opened ts =
    (text : List ℕ) (before other : List Token) → AreOpening opened before [] → SameFirst ts other
    → NoCondition 1 text (before ++ other)

-- or after opening ones, a token that accepts alone, and closing ones
abbrev pub ContinuesAfter : ℕ → ℕ → Token → List Token → Type 0
ContinuesAfter opened closed atom =
    HasFirst (λ t. (text : List ℕ) (before between : List Token) → AreOpening opened before []
    → accepts_alone text atom ≡ true → AreClosing closed between []
    → Continued text (before ++ atom ∷ between) t)

abbrev pub NoneAfter : ℕ → ℕ → Token → List Token → Type 0
NoneAfter opened closed atom ts =
    (text : List ℕ) (before between other : List Token) → AreOpening opened before []
    → accepts_alone text atom ≡ true → AreClosing closed between [] → SameFirst ts other
    → NoCondition 1 text ((before ++ atom ∷ between) ++ other)

-- ---- filters

-- within the limit of nesting, and with a number only where one is left, where these limits are in
-- force
abbrev pub NoFilter : ℕ → ℕ → List ℕ → List Token → Type 0
NoFilter funclets n text ts =
    (f : Expression) (end : List Token) → IsCondition text f ts end
    → (IsInForce Nesting n → height f ≤ MOST_EXPRESSIONS)
    → (IsInForce (Number Funclets) n → numbers_of (accepts text f) ≤ funclets) → ⊥

pub record HasFilter (funclets n : ℕ) (text : List ℕ) (ts : List Token) : Type 0 where
  pub tree : Expression
  pub is : (other : List Token) → IsCondition text tree (ts ++ other) other
  pub low : IsInForce Nesting n → height tree ≤ MOST_EXPRESSIONS
  pub count : IsInForce (Number Funclets) n → numbers_of (accepts text tree) ≤ funclets

-- Up to the rest, tokens can be completed to a filter that has no number; and no condition within
-- the limit of nesting continues with the first token there.
pub record Departs (text : List ℕ) (ts rest : List Token) : Type 0 where
  pub front : List Token
  pub split : ts ≡ front ++ rest
  pub able : (text' : List ℕ) → Alike text text' ts → Speaks text'
      → Able (HasFilter 0) every_limit text' front
  pub none : (text' : List ℕ) (other : List Token) → Alike text text' ts → SameFirst rest other
      → NoCondition 1 text' (front ++ other)
