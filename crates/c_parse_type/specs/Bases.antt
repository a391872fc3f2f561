-- What the reader of specifiers does, on lists; and what isn't at the front.
use Rattle.std.specs.Prelude.{◌≡◌, List, ◌++◌, Option, Some, None}
use Rattle.c_lex.specs.declared.keyword.Keyword.{Keyword}
use Rattle.c_lex.specs.declared.keyword.Keyword.TheVariants as keywords
use Rattle.c_lex.specs.declared.punctuator.Punctuator.TheVariants as punctuators
use Rattle.c_lex.specs.declared.token.Token.{Token}
use Rattle.c_syntax.specs.declared.expression.Base.{Base}
use Rattle.c_syntax.specs.declared.expression.Base.TheVariants as bases
use Rattle.c_syntax.specs.declared.expression.CType.{CType}
use Rattle.c_syntax.specs.Faults.{SameFirst}
use Rattle.c_syntax.specs.Tokens.{HasPunctuator}
use Rattle.c_syntax.specs.Types.{IsBase, IsType}
use Rattle.c_parse_type.specs.Fronts.{after_keyword}

abbrev pub int_or : Option (Keyword × List Token) → List Token → List Token
int_or (Some (keywords.Int, rest)) ts = rest
int_or o ts = ts

abbrev pub past_int : List Token → List Token
past_int ts = int_or (after_keyword ts) ts

abbrev pub long_or : Base → Base → Option (Keyword × List Token) → List Token → Base × List Token
long_or plain wide (Some (keywords.Long, rest)) ts = (wide, past_int rest)
long_or plain wide o ts = (plain, past_int ts)

abbrev pub long : Base → Base → List Token → Base × List Token
long plain wide ts = long_or plain wide (after_keyword ts) ts

abbrev pub signed_or : Option (Keyword × List Token) → List Token → Base × List Token
signed_or (Some (keywords.Char, rest)) ts = (bases.Char, rest)
signed_or (Some (keywords.Short, rest)) ts = (bases.Short, past_int rest)
signed_or (Some (keywords.Int, rest)) ts = (bases.Int, rest)
signed_or (Some (keywords.Long, rest)) ts = long bases.Int bases.LongLong rest
signed_or o ts = (bases.Int, ts)

abbrev pub signed : List Token → Base × List Token
signed ts = signed_or (after_keyword ts) ts

abbrev pub unsigned_or : Option (Keyword × List Token) → List Token → Base × List Token
unsigned_or (Some (keywords.Char, rest)) ts = (bases.UnsignedChar, rest)
unsigned_or (Some (keywords.Short, rest)) ts = (bases.UnsignedShort, past_int rest)
unsigned_or (Some (keywords.Int, rest)) ts = (bases.Unsigned, rest)
unsigned_or (Some (keywords.Long, rest)) ts = long bases.Unsigned bases.UnsignedLongLong rest
unsigned_or o ts = (bases.Unsigned, ts)

abbrev pub unsigned : List Token → Base × List Token
unsigned ts = unsigned_or (after_keyword ts) ts

abbrev pub base_or : Option (Keyword × List Token) → Option (Base × List Token)
base_or (Some (keywords.Void, rest)) = Some (bases.Void, rest)
base_or (Some (keywords.Char, rest)) = Some (bases.Char, rest)
base_or (Some (keywords.Short, rest)) = Some (bases.Short, past_int rest)
base_or (Some (keywords.Int, rest)) = Some (bases.Int, rest)
base_or (Some (keywords.Long, rest)) = Some (long bases.Int bases.LongLong rest)
base_or (Some (keywords.Signed, rest)) = Some (signed rest)
base_or (Some (keywords.Unsigned, rest)) = Some (unsigned rest)
base_or o = None

abbrev pub base : List Token → Option (Base × List Token)
base ts = base_or (after_keyword ts)

-- no specifiers are at the front
abbrev pub NoBase : List Token → Type 0
NoBase ts = (b : Base) (rest : List Token) → IsBase b ts rest → ⊥

-- no star is at the front
abbrev pub NoStar : List Token → Type 0
NoStar ts = (rest : List Token) → HasPunctuator punctuators.Star ts rest → ⊥

-- Specifiers end here: with the next token, whatever follows it, no others are there that
-- nothing of a base follows.
pub record EndsBase (b : Base) (ts rest : List Token) : Type 0 where
  pub front : List Token
  pub split : ts ≡ front ++ rest
  pub only : (other : List Token) → SameFirst rest other → (d : Base) (end : List Token)
      → IsBase d (front ++ other) end → NoBase end → (b ≡ d) × (other ≡ end)

-- nor does a type
pub record EndsType (t : CType) (ts rest : List Token) : Type 0 where
  pub front : List Token
  pub split : ts ≡ front ++ rest
  pub only : (other : List Token) → SameFirst rest other → (d : CType) (end : List Token)
      → IsType d (front ++ other) end → NoBase end → NoStar end → (t ≡ d) × (other ≡ end)
