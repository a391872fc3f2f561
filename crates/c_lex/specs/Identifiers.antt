-- Words of letters, digits and `_` (C11, 6.4.2).
use Rattle.std.specs.Prelude.{ℕ, Bool, ◌&&◌, ◌||◌, ◌==◌, nat_le, List, Option, Some, None}
use Rattle.c_lex.specs.declared.keyword.Keyword.{Keyword}
use Rattle.c_lex.specs.declared.reserved.Reserved.{Reserved}
use Rattle.c_lex.specs.declared.token.Kind.{Kind}
use Rattle.c_lex.specs.declared.token.Kind.TheVariants as kinds
use Rattle.c_lex.specs.Keywords.{keyword_of}
use Rattle.c_lex.specs.ReservedWords.{reserved_of}

-- a letter or `_`
unfoldable pub is_letter : ℕ → Bool
is_letter b = nat_le 97 b && nat_le b 122 || nat_le 65 b && nat_le b 90 || b == 95

unfoldable pub is_digit : ℕ → Bool
is_digit b = nat_le 48 b && nat_le b 57

unfoldable pub is_identifier_byte : ℕ → Bool
is_identifier_byte b = is_letter b || is_digit b

abbrev pub kind_by : Option Keyword → Option Reserved → Kind
kind_by (Some k) r = kinds.Keyword k
kind_by None (Some r) = kinds.Reserved r
kind_by None None = kinds.Identifier

-- what a word of letters, digits and `_` is
unfoldable pub identifier_kind : List ℕ → Kind
identifier_kind word = kind_by (keyword_of word) (reserved_of word)
