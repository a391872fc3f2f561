-- Specifiers of types (C11, 6.7.2), and types after stars.
--
-- `spellings`, `IsBase`, `IsType`: the ways to write a base type, `signed` or `unsigned` first
-- (C11, 6.7.2), one of these, and one of these with stars. `char` is signed and `long` is `int`
-- (Microsoft C reference, "Storage of basic types").
use Rattle.std.specs.Prelude.{◌≡◌, ℕ, zero, suc, List, [], ◌∷◌, ◌⊎◌}
use Rattle.c_lex.specs.declared.keyword.Keyword.{Keyword}
use Rattle.c_lex.specs.declared.keyword.Keyword.TheVariants as keywords
use Rattle.c_lex.specs.declared.punctuator.Punctuator.TheVariants as punctuators
use Rattle.c_lex.specs.declared.token.Token.{Token}
use Rattle.c_syntax.specs.declared.expression.Base.{Base}
use Rattle.c_syntax.specs.declared.expression.Base.TheVariants.{Void, Char, UnsignedChar, Short}
use Rattle.c_syntax.specs.declared.expression.Base.TheVariants.{UnsignedShort, Int, Unsigned}
use Rattle.c_syntax.specs.declared.expression.Base.TheVariants.{LongLong, UnsignedLongLong}
use Rattle.c_syntax.specs.declared.expression.CType.{CType}
use Rattle.c_syntax.specs.Tokens.{HasKeyword, HasPunctuator}

-- all ways to write a base: `char` is signed, and `long` is `int`
abbrev pub spellings : Base → List (List Keyword)
spellings Void = (keywords.Void ∷ []) ∷ []
spellings Char = (keywords.Char ∷ []) ∷ (keywords.Signed ∷ keywords.Char ∷ []) ∷ []
spellings UnsignedChar = (keywords.Unsigned ∷ keywords.Char ∷ []) ∷ []
spellings Short =
    (keywords.Short ∷ []) ∷ (keywords.Short ∷ keywords.Int ∷ [])
    ∷ (keywords.Signed ∷ keywords.Short ∷ [])
    ∷ (keywords.Signed ∷ keywords.Short ∷ keywords.Int ∷ []) ∷ []
spellings UnsignedShort =
    (keywords.Unsigned ∷ keywords.Short ∷ [])
    ∷ (keywords.Unsigned ∷ keywords.Short ∷ keywords.Int ∷ []) ∷ []
spellings Int =
    (keywords.Int ∷ []) ∷ (keywords.Signed ∷ []) ∷ (keywords.Signed ∷ keywords.Int ∷ [])
    ∷ (keywords.Long ∷ []) ∷ (keywords.Long ∷ keywords.Int ∷ [])
    ∷ (keywords.Signed ∷ keywords.Long ∷ []) ∷ (keywords.Signed ∷ keywords.Long ∷ keywords.Int ∷ [])
    ∷ []
spellings Unsigned =
    (keywords.Unsigned ∷ []) ∷ (keywords.Unsigned ∷ keywords.Int ∷ [])
    ∷ (keywords.Unsigned ∷ keywords.Long ∷ [])
    ∷ (keywords.Unsigned ∷ keywords.Long ∷ keywords.Int ∷ []) ∷ []
spellings LongLong =
    (keywords.Long ∷ keywords.Long ∷ []) ∷ (keywords.Long ∷ keywords.Long ∷ keywords.Int ∷ [])
    ∷ (keywords.Signed ∷ keywords.Long ∷ keywords.Long ∷ [])
    ∷ (keywords.Signed ∷ keywords.Long ∷ keywords.Long ∷ keywords.Int ∷ []) ∷ []
spellings UnsignedLongLong =
    (keywords.Unsigned ∷ keywords.Long ∷ keywords.Long ∷ [])
    ∷ (keywords.Unsigned ∷ keywords.Long ∷ keywords.Long ∷ keywords.Int ∷ []) ∷ []

abbrev pub AreKeywords : List Keyword → List Token → List Token → Type 0
AreKeywords [] ts rest = ts ≡ rest
AreKeywords (k ∷ ks) ts rest = (mid : List Token) × HasKeyword k ts mid × AreKeywords ks mid rest

-- one of these ways
abbrev pub IsOneOf : List (List Keyword) → List Token → List Token → Type 0
IsOneOf [] ts rest = ⊥
IsOneOf (ks ∷ more) ts rest = AreKeywords ks ts rest ⊎ IsOneOf more ts rest

abbrev pub IsBase : Base → List Token → List Token → Type 0
IsBase base ts rest = IsOneOf (spellings base) ts rest

abbrev pub AreStars : ℕ → List Token → List Token → Type 0
AreStars zero ts rest = ts ≡ rest
AreStars (suc n) ts rest =
    (mid : List Token) × HasPunctuator punctuators.Star ts mid × AreStars n mid rest

abbrev pub IsType : CType → List Token → List Token → Type 0
IsType type ts rest = (mid : List Token) × IsBase type.base ts mid × AreStars type.pointers mid rest
