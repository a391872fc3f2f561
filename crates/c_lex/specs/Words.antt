-- The words that a text is made of: tokens, white space, comments, and what is refused.
--
-- The main definition: `word`.
use Rattle.std.specs.Prelude.{ℕ, ◌==◌, if◌then◌else◌, List, [], ◌∷◌, Option, Some, None, option_map}
use Rattle.c_lex.specs.declared.punctuator.Punctuator.{Punctuator}
use Rattle.c_lex.specs.declared.token.Kind.TheVariants as kinds
use Rattle.c_lex.specs.declared.word.Word.{Word}
use Rattle.c_lex.specs.declared.word.Word.TheVariants.{Lexeme, Blank, Bad}
use Rattle.c_lex.specs.declared.word.Fault.TheVariants.{BadByte}
use Rattle.c_lex.specs.Punctuators.{punctuator_of}
use Rattle.c_lex.specs.Identifiers.{is_letter, is_digit, is_identifier_byte, identifier_kind}
use Rattle.c_lex.specs.Integers.{integer, after_zero}
use Rattle.c_lex.specs.Characters.{quoted}
use Rattle.c_lex.specs.Comments.{is_space, is_other_than_line_feed, comment}
use Rattle.c_lex.specs.Longest.{each}

-- one byte alone
abbrev pub alone : Word → List ℕ → Option Word
alone w [] = Some w
alone w (b ∷ bs) = None

-- a byte that begins no word is a word of its own, and refused
abbrev pub lone : Option Punctuator → Word
lone (Some s) = Lexeme (kinds.Punctuator s)
lone None = Bad BadByte

-- what may follow a byte in a punctuator
unfoldable pub punctuator : ℕ → List ℕ → Option Word
punctuator b [] = Some (lone (punctuator_of (b ∷ [])))
punctuator b (c ∷ cs) = option_map (λ s. Lexeme (kinds.Punctuator s)) (punctuator_of (b ∷ c ∷ cs))

-- what may follow a `/`
abbrev pub slash : List ℕ → Option Word
slash [] = punctuator 47 []
slash (b ∷ bs) =
    if b == 47 then each is_other_than_line_feed (λ _. Blank) bs
    else (if b == 42 then comment bs
    else punctuator 47 (b ∷ bs))

-- what may follow a first byte
unfoldable pub word_from : ℕ → List ℕ → Option Word
word_from b bs =
    if is_letter b then each is_identifier_byte (λ w. Lexeme (identifier_kind w)) (b ∷ bs)
    else (if b == 48 then after_zero bs
    else (if is_digit b then integer 10 (b ∷ bs)
    else (if b == 39 then quoted bs
    else (if b == 47 then slash bs
    else (if is_space b then alone Blank bs
    else punctuator b bs)))))

-- what a whole list of bytes is: a token of a kind, white space or a comment, or a fault; nothing
-- for every other list (C11, 6.4)
abbrev pub word : List ℕ → Option Word
word [] = None
word (b ∷ bs) = word_from b bs
