-- The words of this crate's proofs: what its lemma files import, by the crates below.
pub use Rattle.c_lex.specs.CharacterReaders.{quoted, closed, two_digits, escape, character, whole}
pub use Rattle.c_lex.specs.Characters.{is_plain, signed_char, char, is_hexadecimal}
unfoldable pub use Rattle.c_lex.specs.Characters.{escaped}
pub use Rattle.c_lex.specs.Comments.{after_mark, or_else, after_end, ended, comment, is_other_than_line_feed}
unfoldable pub use Rattle.c_lex.specs.Comments.{is_space}
unfoldable pub use Rattle.c_lex.specs.Identifiers.{is_letter, is_digit, is_identifier_byte, identifier_kind}
pub use Rattle.c_lex.specs.IntegerReaders.{digits, zero, hexadecimal}
pub use Rattle.c_lex.specs.Integers.{suffix, limit, types, place_value, is_digit_of, after_zero}
unfoldable pub use Rattle.c_lex.specs.Integers.{digit, suffix_of, type_of, literal, integer}
unfoldable pub use Rattle.c_lex.specs.Keywords.{keyword_of}
pub use Rattle.c_lex.specs.Longest.{IsLongest, each, more, span}
pub use Rattle.c_lex.specs.Punctuators.{is_same}
unfoldable pub use Rattle.c_lex.specs.Punctuators.{punctuator_of}
pub use Rattle.c_lex.specs.Readers.{one, two, either, three, number}
unfoldable pub use Rattle.c_lex.specs.ReservedWords.{reserved_of}
pub use Rattle.c_lex.specs.Text.{Piece, Cut, IsGood, AreGood, token_of, tokens_of, IsTokens, size, token, IsLexicalFault}
pub use Rattle.c_lex.specs.Words.{word, alone, slash, lone}
unfoldable pub use Rattle.c_lex.specs.Words.{punctuator, word_from}
pub use Rattle.c_lex.specs.declared.keyword.Keyword.{Keyword}
pub use Rattle.c_lex.specs.declared.punctuator.Punctuator.{Punctuator}
pub use Rattle.c_lex.specs.declared.reserved.Reserved.{Reserved}
pub use Rattle.c_lex.specs.declared.token.IntegerType.TheVariants.{Int, Unsigned, LongLong, UnsignedLongLong}
pub use Rattle.c_lex.specs.declared.token.Token.{Token}
pub use Rattle.c_lex.specs.declared.word.Fault.{Fault}
pub use Rattle.c_lex.specs.declared.word.Fault.TheVariants.{OpenComment, BadChar, BigLiteral}
pub use Rattle.c_lex.specs.declared.word.Word.{Word}
pub use Rattle.c_lex.specs.declared.word.Word.TheVariants.{Blank, Bad, Lexeme}
