-- The bytes of an identifier: letters, digits and `_`, none of which is 0.
use Rattle.std.proofs.Common.{◌≡◌, ℕ, ◌+◌, ◌*◌, ◌<◌, ◌≤◌, Bool, true, false, Option, Some, None, List, [], ◌∷◌, refl, arith, inl, inr}
use Rattle.std.specs.Prelude.{◌==◌, ◌&&◌, ◌||◌, nat_le, if◌then◌else◌, option_map}
use Rattle.std.proofs.lemmas.Bool.{and_parts, or_cases, leb-true, eqb-true}
use Rattle.c_lex.specs.declared.punctuator.Punctuator.{Punctuator}
use Rattle.c_lex.specs.declared.token.IntegerType.{IntegerType}
use Rattle.c_lex.specs.declared.token.Kind.TheVariants as kinds
use Rattle.c_lex.specs.declared.word.Word.{Word}
use Rattle.c_lex.specs.declared.word.Word.TheVariants.{Lexeme, Blank}
use Rattle.c_lex.specs.Characters.{char, escaped, quoted}
use Rattle.c_lex.specs.Comments.{is_space, after_end, ended}
use Rattle.c_lex.specs.Identifiers.{is_letter, is_digit, is_identifier_byte, identifier_kind}
use Rattle.c_lex.specs.Integers.{digit, literal, place_value, is_digit_of, suffix_of, typed, type_of, integer, hexadecimal, after_zero}
use Rattle.c_lex.specs.Longest.{every, each, span}
use Rattle.c_lex.specs.Words.{alone, lone, punctuator, slash, word_from, word}
use Rattle.c_lex.specs.Punctuators.{punctuator_of}
use Rattle.text_bounds.specs.Words.{IsName}

-- ---- what is no identifier

abbrev NoName : Option Word → Type 0
NoName o = o ≡ Some (Lexeme kinds.Identifier) → ⊥

none_no : NoName None
none_no e = cc

option_no : {A : Type 0} (f : A → Word) (o : Option A) → ((x : A) → NoName (Some (f x)))
    → NoName (option_map f o)
option_no f None h = none_no
option_no f (Some x) h = h x

if_no : (t : Bool) (o p : Option Word) → NoName o → NoName p → NoName (if t then o else p)
if_no true o p a b = a
if_no false o p a b = b

typed_no : (n : ℕ) (o : Option IntegerType) → NoName (Some (typed n o))
typed_no n None e = cc
typed_no n (Some t) e = cc

integer_no : (base : ℕ) (bytes : List ℕ) → NoName (integer base bytes)
unfolding integer literal
integer_no base bytes =
    let parts = span (is_digit_of base) bytes in
    let n = place_value base parts.0 in
    option_no (literal base n) (suffix_of parts.1)
    (λ s. typed_no n (type_of (base == 10) s n))

hexadecimal_no : (bytes : List ℕ) → NoName (hexadecimal bytes)
hexadecimal_no [] = none_no
hexadecimal_no (b ∷ bs) =
    if_no (is_digit_of 16 b) (integer 16 (b ∷ bs)) None (integer_no 16 (b ∷ bs)) none_no

after_zero_no : (bytes : List ℕ) → NoName (after_zero bytes)
after_zero_no [] = integer_no 8 []
after_zero_no (b ∷ bs) =
    if_no (b == 120 || b == 88) (hexadecimal bs) (integer 8 (b ∷ bs)) (hexadecimal_no bs)
    (integer_no 8 (b ∷ bs))

char_no : (n : ℕ) → NoName (Some (char n))
char_no n e = cc

quoted_no : (bytes : List ℕ) → NoName (quoted bytes)
unfolding quoted
quoted_no [] e = cc
quoted_no (b ∷ []) e = cc
quoted_no (b ∷ (q ∷ [])) e = if_no _ (Some (char b)) None (char_no b) none_no e
quoted_no (s ∷ (b ∷ (q ∷ []))) e =
    if_no _ (option_map char (escaped b)) None (option_no char (escaped b) char_no) none_no e
quoted_no (s ∷ (x ∷ (a ∷ (b ∷ [])))) e = cc
quoted_no (s ∷ (x ∷ (a ∷ (b ∷ (q ∷ []))))) e =
    if_no _ _ None (char_no (16 * digit a + digit b)) none_no e
quoted_no (s ∷ (x ∷ (a ∷ (b ∷ (q ∷ (c ∷ bs)))))) e = cc

lone_no : (o : Option Punctuator) → NoName (Some (lone o))
lone_no (Some s) e = cc
lone_no None e = cc

punctuator_no : (b : ℕ) (bytes : List ℕ) → NoName (punctuator b bytes)
unfolding punctuator
punctuator_no b [] = lone_no (punctuator_of (b ∷ []))
punctuator_no b (c ∷ cs) =
    option_no (λ s. Lexeme (kinds.Punctuator s)) (punctuator_of (b ∷ c ∷ cs)) (λ s e. cc)

blank_no : NoName (Some Blank)
blank_no e = cc

ended_no : (o : Option (List ℕ)) → NoName (ended o)
ended_no None e = cc
ended_no (Some []) e = cc
ended_no (Some (b ∷ bs)) e = cc

slash_no : (bytes : List ℕ) → NoName (slash bytes)
slash_no [] = punctuator_no 47 []
slash_no (b ∷ bs) =
    if_no (b == 47) _ _ (if_no _ (Some Blank) None blank_no none_no)
    (if_no (b == 42) _ _ (ended_no (after_end bs)) (punctuator_no 47 (b ∷ bs)))

alone_no : (bytes : List ℕ) → NoName (alone Blank bytes)
alone_no [] = blank_no
alone_no (b ∷ bs) = none_no

-- ---- what is one

every_of : (t : Bool) (x y : Word) → (if t then Some x else None) ≡ Some y → t ≡ true
every_of true x y e = refl
every_of false x y e = cc

-- what a word is that doesn't begin with a letter
abbrev other : ℕ → List ℕ → Option Word
other b bs =
    if b == 48 then after_zero bs
    else (if is_digit b then integer 10 (b ∷ bs)
    else (if b == 39 then quoted bs
    else (if b == 47 then slash bs
    else (if is_space b then alone Blank bs
    else punctuator b bs))))

other_no : (b : ℕ) (bs : List ℕ) → NoName (other b bs)
other_no b bs =
    if_no _ _ _ (after_zero_no bs) (if_no _ _ _ (integer_no 10 (b ∷ bs))
    (if_no _ _ _ (quoted_no bs) (if_no _ _ _ (slash_no bs)
    (if_no _ _ _ (alone_no bs) (punctuator_no b bs)))))

name_or_other : (l : Bool) (b : ℕ) (bs : List ℕ)
    → (if l then each is_identifier_byte (λ w. Lexeme (identifier_kind w)) (b ∷ bs) else other b bs)
    ≡ Some (Lexeme kinds.Identifier) → every is_identifier_byte (b ∷ bs) ≡ true
name_or_other true b bs e =
    every_of (every is_identifier_byte (b ∷ bs)) (Lexeme (identifier_kind (b ∷ bs)))
    (Lexeme kinds.Identifier) e
name_or_other false b bs e = absurd (other_no b bs e)

word_every : (bytes : List ℕ) → word bytes ≡ Some (Lexeme kinds.Identifier)
    → every is_identifier_byte bytes ≡ true
unfolding word_from
word_every [] e = cc
word_every (b ∷ bs) e = name_or_other (is_letter b) b bs e

-- ---- its bytes

between : (low high b : ℕ) → (nat_le low b && nat_le b high) ≡ true → (low ≤ b) × (b ≤ high)
between low high b h =
    let both = and_parts (nat_le low b) (nat_le b high) h in
    (leb-true low b both.0, leb-true b high both.1)

byte : (b : ℕ) → is_identifier_byte b ≡ true → (0 < b) × (b < 256)
unfolding is_identifier_byte is_letter is_digit
byte b h = elim (or_cases _ (nat_le 48 b && nat_le b 57) h) [
  | inl letter ↦ elim (or_cases _ (b == 95) letter) [
    | inl cased ↦ elim (or_cases _ (nat_le 65 b && nat_le b 90) cased) [
      | inl small ↦ let x = between 97 122 b small in (omega (arith, x.0), omega (arith, x.1))
      | inr large ↦ let x = between 65 90 b large in (omega (arith, x.0), omega (arith, x.1))
    ]
    | inr line ↦ let e = eqb-true b 95 line in (omega (arith, e), omega (arith, e))
  ]
  | inr digit ↦ let x = between 48 57 b digit in (omega (arith, x.0), omega (arith, x.1))
]

bytes_are : (bytes : List ℕ) → every is_identifier_byte bytes ≡ true → IsName bytes
bytes_are [] h = tt
bytes_are (b ∷ bs) h =
    let both = and_parts (is_identifier_byte b) (every is_identifier_byte bs) h in
    (byte b both.0, bytes_are bs both.1)

pub word_named : (bytes : List ℕ) → word bytes ≡ Some (Lexeme kinds.Identifier) → IsName bytes
word_named bytes e = bytes_are bytes (word_every bytes e)
