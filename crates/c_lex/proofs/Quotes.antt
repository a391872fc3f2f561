-- The longest character after a quote.
use Rattle.std.proofs.Common.{◌≡◌, ◌+◌, ◌*◌, ℕ, Bool, true, false, ◌&&◌, cond, nat_eq, nat_lt, List}
use Rattle.std.proofs.Common.{[], ◌∷◌, ◌++◌, refl, sym, ap, subst, ◌∙◌, Option, Some, None}
use Rattle.std.specs.Prelude.{ℤ}
use Rattle.c_lex.specs.declared.token.Kind.TheVariants as kinds
use Rattle.c_lex.specs.Vocabulary.{Word, Lexeme, Bad, BadChar, IsLongest, digit, is_plain, signed_char, escaped, closed, two_digits, escape, character, whole, quoted}

-- what reading gives, a value and the rest
abbrev Read : Type 0
Read = Option (ℤ × List ℕ)

-- ---- further bytes stay unread

cond_on : (t : Bool) (o p q s : Read) (x y : ℤ × List ℕ) → (o ≡ Some x → p ≡ Some y)
    → (q ≡ Some x → s ≡ Some y) → cond t o q ≡ Some x → cond t p s ≡ Some y
cond_on true o p q s x y f g e = f e
cond_on false o p q s x y f g e = g e

nothing_on : (x y : ℤ × List ℕ) → None ≡ Some x → None ≡ Some y
nothing_on x y e = absurd (cc)

abbrev given : ℤ → List ℕ → Read
given v r = Some (v, r)

more_on : (n v : ℤ) (bs r m : List ℕ) → given n bs ≡ given v r
    → given n (bs ++ m) ≡ given v (r ++ m)
more_on n v bs r m e = let p : ◌≡◌ {A = ℤ × List ℕ} (n, bs) (v, r) = cc in
    ap (λ (x : ℤ × List ℕ). Some (x.0, x.1 ++ m)) p

closed_on : (o : Option ℕ) (w m r : List ℕ) (v : ℤ) → closed o w ≡ Some (v, r)
    → closed o (w ++ m) ≡ Some (v, r ++ m)
closed_on None w m r v e = absurd (cc)
closed_on (Some n) [] m r v e = absurd (cc)
closed_on (Some n) (b ∷ bs) m r v e =
    cond_on (nat_eq b 39) (Some (signed_char n, bs)) (Some (signed_char n, bs ++ m)) None None
    (v, r) (v, r ++ m) (more_on (signed_char n) v bs r m) (nothing_on (v, r) (v, r ++ m)) e

two_digits_on : (w m r : List ℕ) (v : ℤ) → two_digits w ≡ Some (v, r)
    → two_digits (w ++ m) ≡ Some (v, r ++ m)
two_digits_on [] m r v e = absurd (cc)
two_digits_on (a ∷ []) m r v e = absurd (cc)
two_digits_on (a ∷ (b ∷ bs)) m r v e =
    let c = Some (16 * digit a + digit b) in
    cond_on (nat_lt (digit a) 16 && nat_lt (digit b) 16) (closed c bs) (closed c (bs ++ m)) None
    None (v, r) (v, r ++ m) (closed_on c bs m r v) (nothing_on (v, r) (v, r ++ m)) e

escape_on : (w m r : List ℕ) (v : ℤ) → escape w ≡ Some (v, r) → escape (w ++ m) ≡ Some (v, r ++ m)
escape_on [] m r v e = absurd (cc)
escape_on (b ∷ bs) m r v e = cond_on (nat_eq b 120) (two_digits bs) (two_digits (bs ++ m))
    (closed (escaped b) bs) (closed (escaped b) (bs ++ m)) (v, r) (v, r ++ m)
    (two_digits_on bs m r v) (closed_on (escaped b) bs m r v) e

continues : (w m r : List ℕ) (v : ℤ) → character w ≡ Some (v, r)
    → character (w ++ m) ≡ Some (v, r ++ m)
continues [] m r v e = absurd (cc)
continues (b ∷ bs) m r v e = cond_on (nat_eq b 92) (escape bs) (escape (bs ++ m))
    (cond (is_plain b) (closed (Some b) bs) None)
    (cond (is_plain b) (closed (Some b) (bs ++ m)) None) (v, r) (v, r ++ m) (escape_on bs m r v)
    (cond_on (is_plain b) (closed (Some b) bs) (closed (Some b) (bs ++ m)) None None (v, r)
    (v, r ++ m) (closed_on (Some b) bs m r v) (nothing_on (v, r) (v, r ++ m))) e

-- ---- what was read is read from its own bytes alone

record Splits (read : List ℕ → Read) (text r : List ℕ) (v : ℤ) : Type 0 where
  word : List ℕ
  split : text ≡ word ++ r
  read_whole : read word ≡ Some (v, [])

by_cond : {X C : Type 0} (t : Bool) (o p : Option X) (x : X) → (t ≡ true → o ≡ Some x → C)
    → (t ≡ false → p ≡ Some x → C) → cond t o p ≡ Some x → C
by_cond true o p x f g e = f refl e
by_cond false o p x f g e = g refl e

closed_splits : (o : Option ℕ) (text r : List ℕ) (v : ℤ) → closed o text ≡ Some (v, r)
    → Splits (closed o) text r v
closed_splits None text r v e = absurd (cc)
closed_splits (Some n) [] r v e = absurd (cc)
closed_splits (Some n) (b ∷ bs) r v e = by_cond (nat_eq b 39) (Some (signed_char n, bs)) None (v, r)
    (λ t q. let p : ◌≡◌ {A = ℤ × List ℕ} (signed_char n, bs) (v, r) = cc in record {
      word = b ∷ [];
      split = ap (λ (x : ℤ × List ℕ). b ∷ x.1) p;
      read_whole = rw t (ap (λ (x : ℤ × List ℕ). Some (x.0, [])) p);
    })
    (λ t q. absurd (cc)) e

two_digits_split : (text r : List ℕ) (v : ℤ) → two_digits text ≡ Some (v, r)
    → Splits two_digits text r v
two_digits_split [] r v e = absurd (cc)
two_digits_split (a ∷ []) r v e = absurd (cc)
two_digits_split (a ∷ (b ∷ bs)) r v e = by_cond (nat_lt (digit a) 16 && nat_lt (digit b) 16)
    (closed (Some (16 * digit a + digit b)) bs) None (v, r)
    (λ t q. let s = closed_splits (Some (16 * digit a + digit b)) bs r v q in record {
      word = a ∷ b ∷ s.word;
      split = ap (λ (l : List ℕ). a ∷ b ∷ l) s.split;
      read_whole = rw t s.read_whole;
    })
    (λ t q. absurd (cc)) e

escape_splits : (text r : List ℕ) (v : ℤ) → escape text ≡ Some (v, r) → Splits escape text r v
escape_splits [] r v e = absurd (cc)
escape_splits (b ∷ bs) r v e = by_cond (nat_eq b 120) (two_digits bs) (closed (escaped b) bs) (v, r)
    (λ t q. let s = two_digits_split bs r v q in
    record {
      word = b ∷ s.word;
      split = ap (λ (l : List ℕ). b ∷ l) s.split;
      read_whole = rw t s.read_whole;
    })
    (λ t q. let s = closed_splits (escaped b) bs r v q in
    record {
      word = b ∷ s.word;
      split = ap (λ (l : List ℕ). b ∷ l) s.split;
      read_whole = rw t s.read_whole;
    }) e

splits : (text r : List ℕ) (v : ℤ) → character text ≡ Some (v, r) → Splits character text r v
splits [] r v e = absurd (cc)
splits (b ∷ bs) r v e =
    by_cond (nat_eq b 92) (escape bs) (cond (is_plain b) (closed (Some b) bs) None) (v, r)
    (λ t q. let s = escape_splits bs r v q in
    record {
      word = b ∷ s.word;
      split = ap (λ (l : List ℕ). b ∷ l) s.split;
      read_whole = rw t s.read_whole;
    })
    (λ t q. by_cond (is_plain b) (closed (Some b) bs) None (v, r)
    (λ u q. let s = closed_splits (Some b) bs r v q in
    record {
      word = b ∷ s.word;
      split = ap (λ (l : List ℕ). b ∷ l) s.split;
      read_whole = rw (u, t) s.read_whole;
    })
    (λ u q. absurd (cc)) q) e

-- ---- words after a quote

whole_at : (w : List ℕ) (o : Read) (v : ℤ) → character w ≡ o → o ≡ Some (v, [])
    → quoted w ≡ Some (Lexeme (kinds.CharacterConstant v))
whole_at [] o v e f = absurd (cc)
whole_at (b ∷ bs) o v e f = ap whole (e ∙ f)

whole_of : (o : Read) (y : Word) → whole o ≡ Some y → (v : ℤ) × (o ≡ Some (v, []))
whole_of None y e = absurd (cc)
whole_of (Some (v, [])) y e = (v, refl)
whole_of (Some (v, b ∷ bs)) y e = absurd (cc)

pub quote_found : (text r : List ℕ) (v : ℤ) → character text ≡ Some (v, r)
    → (w : List ℕ) × IsLongest quoted text w r (Lexeme (kinds.CharacterConstant v))
quote_found text r v e =
    let s = splits text r v e in (
      s.word,
      record {
        split = s.split;
        is = whole_at s.word (character s.word) v refl s.read_whole;
        longest = λ m a y p q. last s.word m y s.read_whole q;
      },
    )
  where
    end_of : (m : List ℕ) (y : Word) → whole (Some (v, m)) ≡ Some y → m ≡ []
    end_of [] y q = refl
    end_of (b ∷ m) y q = absurd (cc)

    last : (w m : List ℕ) (y : Word) → character w ≡ Some (v, []) → quoted (w ++ m) ≡ Some y
        → m ≡ []
    last [] m y i q = absurd (cc)
    last (b ∷ w) m y i q = end_of m y (sym (ap whole (continues (b ∷ w) m [] v i)) ∙ q)

pub quote_alone : (text : List ℕ) → character text ≡ None
    → IsLongest quoted text [] text (Bad BadChar)
quote_alone text e = record { split = refl; is = refl; longest = go }
  where
    go : (m a : List ℕ) (y : Word) → text ≡ m ++ a → quoted m ≡ Some y → m ≡ []
    go [] a y p q = refl
    go (b ∷ m) a y p q =
        let s = whole_of (character (b ∷ m)) y q in
        let k = continues (b ∷ m) a [] s.0 s.1 in
        let n : character (b ∷ m ++ a) ≡ None = subst (λ l. character l ≡ None) p e in
        absurd (cc)
