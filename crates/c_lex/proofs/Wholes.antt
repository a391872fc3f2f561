-- Literals and characters as whole words are what reading them from the left gives.
use Rattle.std.proofs.Common.{◌≡◌, ◌-◌, ◌+◌, ◌*◌, ◌^◌, ℕ, suc, zero, Bool, true, false, ◌&&◌, ◌||◌}
use Rattle.std.proofs.Common.{cond, nat_eq, nat_lt, List, [], ◌∷◌, length, refl, sym, ap, subst}
use Rattle.std.proofs.Common.{◌∙◌, arith, Option, Some, None, option_map}
use Rattle.std.proofs.Math.Nat.{pow-zero, pow-succ'}
use Rattle.std.proofs.lemmas.Bool.Decides.{nat_tests}
use Rattle.c_lex.specs.Vocabulary.{Word, span, is_digit, suffix_of, literal, digit, place_value, is_digit_of, integer, after_zero, digits, is_plain, escaped, char, is_hexadecimal, closed, two_digits, character, whole}
use Rattle.c_lex.specs.Integers.{hexadecimal}
use Rattle.c_lex.specs.IntegerReaders as readers
use Rattle.c_lex.specs.Characters.{quoted}
use Rattle.c_lex.specs.CharacterReaders as char_readers

-- ---- literals

places : (base n d power v : ℕ) → (base * n + d) * power + v ≡ n * (base * power) + (d * power + v)
places base n d power v = omega arith

pub place : (base n d k v : ℕ)
    → (base * n + d) * base ^ k + v ≡ n * base ^ suc k + (d * base ^ k + v)
place base n d k v = places base n d (base ^ k) v ∙ ap (λ p. n * p + (d * base ^ k + v))
    (sym (pow-succ' base k))

pub at_once : (base n : ℕ) → n ≡ n * base ^ zero + 0
at_once base n = rw pow-zero (omega arith)

-- the digits at the front after digits that make n, and a suffix
abbrev following : ℕ → ℕ → List ℕ × List ℕ → Option Word
following base n parts =
    option_map (literal base (n * base ^ length parts.0 + place_value base parts.0))
    (suffix_of parts.1)

digits_whole : (base n : ℕ) (bs : List ℕ)
    → digits base n bs ≡ following base n (span (is_digit_of base) bs)
digits_whole base n [] = ap (λ m. option_map (literal base m) (suffix_of [])) (at_once base n)
digits_whole base n (b ∷ bs) =
    by (nat_lt (digit b) base) refl (digits_whole base (base * n + digit b) bs)
  where
    by : (t : Bool) → nat_lt (digit b) base ≡ t
        → digits base (base * n + digit b) bs ≡ following base (base * n + digit b)
        (span (is_digit_of base) bs)
        → digits base n (b ∷ bs) ≡ following base n (span (is_digit_of base) (b ∷ bs))
    by true e h =
        let s = span (is_digit_of base) bs in
        rw e (h ∙ ap (λ m. option_map (literal base m) (suffix_of s.1))
        (place base n (digit b) (length s.0) (place_value base s.0)))
    by false e h = rw e (ap (λ m. option_map (literal base m) (suffix_of (b ∷ bs)))
        (at_once base n))

pub integer_whole : (base : ℕ) (bs : List ℕ) → integer base bs ≡ digits base 0 bs
unfolding integer
integer_whole base bs =
    let s = span (is_digit_of base) bs in
    sym (digits_whole base 0 bs ∙ ap (λ m. option_map (literal base m) (suffix_of s.1))
    (omega arith))

first_digit : (base b : ℕ) (bs : List ℕ) → nat_lt (digit b) base ≡ true
    → integer base (b ∷ bs) ≡ digits base (digit b) bs
first_digit base b bs e = integer_whole base (b ∷ bs)
    ∙ rw e (ap (λ m. digits base m bs) (omega arith))

pub zero_whole : (bs : List ℕ) → after_zero bs ≡ readers.zero bs
zero_whole [] = integer_whole 8 []
zero_whole (b ∷ bs) = by (nat_eq b 120 || nat_eq b 88) refl
  where
    hexadecimal_whole : (bs : List ℕ) → hexadecimal bs ≡ readers.hexadecimal bs
    hexadecimal_whole [] = refl
    hexadecimal_whole (c ∷ cs) = test (nat_lt (digit c) 16) refl
      where
        test : (t : Bool) → nat_lt (digit c) 16 ≡ t
            → hexadecimal (c ∷ cs) ≡ readers.hexadecimal (c ∷ cs)
        test true e = let h = first_digit 16 c cs e in rw e h
        test false e = rw e refl

    by : (t : Bool) → (nat_eq b 120 || nat_eq b 88) ≡ t
        → after_zero (b ∷ bs) ≡ readers.zero (b ∷ bs)
    by true e = rw e (hexadecimal_whole bs)
    by false e = rw e (integer_whole 8 (b ∷ bs))

digit_at : (b : ℕ) → is_digit b ≡ true → (digit b ≡ b - 48) × (nat_lt (b - 48) 10 ≡ true)
unfolding is_digit digit
digit_at b e = (rw e refl, grind (arith, nat_tests, e))

pub decimal_whole : (b : ℕ) (bs : List ℕ) → is_digit b ≡ true
    → integer 10 (b ∷ bs) ≡ digits 10 (b - 48) bs
decimal_whole b bs e =
    let d = digit_at b e in
    first_digit 10 b bs (ap (λ m. nat_lt m 10) d.0 ∙ d.1) ∙ ap (λ m. digits 10 m bs) d.0

-- ---- characters

by_bool : {C : Type 0} (b : Bool) → (b ≡ true → C) → (b ≡ false → C) → C
by_bool true f g = f refl
by_bool false f g = g refl

and_false : (a : Bool) → (a && false) ≡ false
and_false true = refl
and_false false = refl

and_true : (a : Bool) → (a && true) ≡ a
and_true true = refl
and_true false = refl

nothing : (a : Bool) → cond {A = Option Word} a None None ≡ None
nothing true = refl
nothing false = refl

no_end : (o : Option ℕ) → closed o [] ≡ None
no_end None = refl
no_end (Some n) = refl

at_end : (o : Option ℕ) (q : ℕ)
    → whole (closed o (q ∷ [])) ≡ cond (nat_eq q 39) (option_map char o) None
at_end None q = sym (nothing (nat_eq q 39))
at_end (Some n) q = by_bool (nat_eq q 39) (λ e. rw e refl) (λ e. rw e refl)

no_more : (o : Option ℕ) (q c : ℕ) (bs : List ℕ) → whole (closed o (q ∷ c ∷ bs)) ≡ None
no_more None q c bs = refl
no_more (Some n) q c bs = by_bool (nat_eq q 39) (λ e. rw e refl) (λ e. rw e refl)

-- what begins with no backslash has one byte before the quote
plain_more : (s q c : ℕ) (bs : List ℕ) → nat_eq s 92 ≡ false
    → whole (character (s ∷ q ∷ c ∷ bs)) ≡ None
plain_more s q c bs e = by_bool (is_plain s) (λ p. rw (p, e) (no_more (Some s) q c bs))
    (λ p. rw (p, e) refl)

no_x : escaped 120 ≡ None
unfolding escaped
no_x = refl

one_byte : (b q : ℕ) → quoted (b ∷ q ∷ []) ≡ char_readers.quoted (b ∷ q ∷ [])
unfolding quoted
one_byte b q = by_bool (nat_eq b 92)
    (λ e. let k : b ≡ 92 = grind (arith, nat_tests) in
    subst (λ c. quoted (c ∷ q ∷ []) ≡ char_readers.quoted (c ∷ q ∷ [])) (sym k)
    (rw (and_false (nat_eq q 39))
    (sym (by_bool (nat_eq q 120) (λ f. rw f refl)
    (λ f. rw f (ap whole (no_end (escaped q))))))))
    (λ e. by_bool (is_plain b)
    (λ p. rw (p, e, and_true (nat_eq q 39)) (sym (at_end (Some b) q)))
    (λ p. rw (p, e, and_false (nat_eq q 39)) refl))

escape_sequence : (s b q : ℕ) → quoted (s ∷ b ∷ q ∷ []) ≡ char_readers.quoted (s ∷ b ∷ q ∷ [])
unfolding quoted
escape_sequence s b q = by_bool (nat_eq s 92)
    (λ e. by_bool (nat_eq b 120)
    (λ f. let k : b ≡ 120 = grind (arith, nat_tests) in let n : escaped b ≡ None = ap escaped k
    ∙ no_x in rw (e, f, n) (nothing (nat_eq q 39 && true)))
    (λ f. rw (e, f, and_true (nat_eq q 39)) (sym (at_end (escaped b) q))))
    (λ e. let n : quoted (s ∷ b ∷ q ∷ []) ≡ None = rw (e, and_false (nat_eq q 39)) refl in
    n ∙ sym (plain_more s b q [] e))

-- after `\x` come two digits and a quote
two_digits_end : (a b q : ℕ)
    → whole (two_digits (a ∷ b ∷ q ∷ [])) ≡ cond
    (nat_eq q 39 && (is_hexadecimal a && is_hexadecimal b)) (Some (char (16 * digit a + digit b)))
    None
two_digits_end a b q = by_bool (is_hexadecimal a && is_hexadecimal b)
    (λ h. rw (h, and_true (nat_eq q 39)) (at_end (Some (16 * digit a + digit b)) q))
    (λ h. rw (h, and_false (nat_eq q 39)) refl)

two_digits_more : (a b q c : ℕ) (bs : List ℕ) → whole (two_digits (a ∷ b ∷ q ∷ c ∷ bs)) ≡ None
two_digits_more a b q c bs = by_bool (is_hexadecimal a && is_hexadecimal b)
    (λ h. rw h (no_more (Some (16 * digit a + digit b)) q c bs))
    (λ h. rw h refl)

two_digits_alone : (a b : ℕ) → whole (two_digits (a ∷ b ∷ [])) ≡ None
two_digits_alone a b = by_bool (is_hexadecimal a && is_hexadecimal b) (λ h. rw h refl)
    (λ h. rw h refl)

-- what reading gives of four bytes and more, by the first two
by_two : (s x a b : ℕ) (bs : List ℕ) (o : Option Word)
    → (nat_eq s 92 ≡ true → nat_eq x 120 ≡ true → o ≡ whole (two_digits (a ∷ b ∷ bs)))
    → (nat_eq s 92 ≡ true → nat_eq x 120 ≡ false → o ≡ None) → (nat_eq s 92 ≡ false → o ≡ None)
    → o ≡ char_readers.quoted (s ∷ x ∷ a ∷ b ∷ bs)
by_two s x a b bs o f g h = by_bool (nat_eq s 92)
    (λ e. by_bool (nat_eq x 120)
    (λ k. f e k ∙ rw (e, k) refl)
    (λ k. g e k ∙ rw (e, k) (sym (no_more (escaped x) a b bs))))
    (λ e. h e ∙ sym (plain_more s x a (b ∷ bs) e))

four_bytes : (s x a b : ℕ) → quoted (s ∷ x ∷ a ∷ b ∷ []) ≡ char_readers.quoted (s ∷ x ∷ a ∷ b ∷ [])
unfolding quoted
four_bytes s x a b = by_two s x a b [] None (λ e k. sym (two_digits_alone a b)) (λ e k. refl)
    (λ e. refl)

five_bytes : (s x a b q : ℕ)
    → quoted (s ∷ x ∷ a ∷ b ∷ q ∷ []) ≡ char_readers.quoted (s ∷ x ∷ a ∷ b ∷ q ∷ [])
unfolding quoted
five_bytes s x a b q = by_two s x a b (q ∷ []) (quoted (s ∷ x ∷ a ∷ b ∷ q ∷ []))
    (λ e k. rw (e, k) (sym (two_digits_end a b q)))
    (λ e k. rw (e, k, and_false (nat_eq q 39)) refl)
    (λ e. rw (e, and_false (nat_eq q 39)) refl)

more_bytes : (s x a b q c : ℕ) (bs : List ℕ)
    → quoted (s ∷ x ∷ a ∷ b ∷ q ∷ c ∷ bs) ≡ char_readers.quoted (s ∷ x ∷ a ∷ b ∷ q ∷ c ∷ bs)
unfolding quoted
more_bytes s x a b q c bs =
    by_two s x a b (q ∷ c ∷ bs) None (λ e k. sym (two_digits_more a b q c bs)) (λ e k. refl)
    (λ e. refl)

pub quoted_whole : (bs : List ℕ) → quoted bs ≡ char_readers.quoted bs
unfolding quoted
quoted_whole [] = refl
quoted_whole (b ∷ []) =
    sym (by_bool (nat_eq b 92) (λ e. rw e refl)
    (λ e. by_bool (is_plain b) (λ p. rw (p, e) refl) (λ p. rw (p, e) refl)))
quoted_whole (b ∷ (q ∷ [])) = one_byte b q
quoted_whole (s ∷ (b ∷ (q ∷ []))) = escape_sequence s b q
quoted_whole (s ∷ (x ∷ (a ∷ (b ∷ [])))) = four_bytes s x a b
quoted_whole (s ∷ (x ∷ (a ∷ (b ∷ (q ∷ []))))) = five_bytes s x a b q
quoted_whole (s ∷ (x ∷ (a ∷ (b ∷ (q ∷ (c ∷ bs)))))) = more_bytes s x a b q c bs
