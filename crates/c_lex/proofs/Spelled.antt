-- Punctuators, keywords and reserved words are what their spellings are.
use Rattle.std.proofs.Common.{◌≡◌, refl, Some}
use Rattle.c_lex.specs.Vocabulary.{Keyword, Reserved, Punctuator, Lexeme, keyword_of, reserved_of, punctuator_of, is_letter, is_digit, is_identifier_byte, identifier_kind, is_space, punctuator, word_from, word}
use Rattle.c_lex.specs.declared.keyword.Keyword.TheVariants as k
use Rattle.c_lex.specs.declared.reserved.Reserved.TheVariants as r
use Rattle.c_lex.specs.declared.punctuator.Punctuator.TheVariants as s
use Rattle.c_lex.specs.declared.token.Kind.TheVariants as kinds
use Rattle.c_lex.specs.Keywords as keywords
use Rattle.c_lex.specs.ReservedWords as reserved_words
use Rattle.c_lex.specs.Punctuators as punctuators

pub punctuators_spelled : (s : Punctuator)
    → word (punctuators.spelling s) ≡ Some (Lexeme (kinds.Punctuator s))
unfolding word_from is_letter is_digit is_space punctuator punctuator_of
punctuators_spelled s.OpenParenthesis = refl
punctuators_spelled s = refl

pub keywords_spelled : (k : Keyword) → word (keywords.spelling k) ≡ Some (Lexeme (kinds.Keyword k))
unfolding word_from is_letter is_digit is_identifier_byte identifier_kind keyword_of
keywords_spelled k.Break = refl
keywords_spelled k = refl

pub reserved_spelled : (r : Reserved)
    → word (reserved_words.spelling r) ≡ Some (Lexeme (kinds.Reserved r))
unfolding word_from is_letter is_digit is_identifier_byte identifier_kind keyword_of reserved_of
reserved_spelled r.Auto = refl
reserved_spelled r = refl
