-- The longest word of each kind.
use Rattle.std.proofs.Common.{◌≡◌, ◌≤◌, ◌<◌, ◌+◌, ◌*◌, ◌^◌, ℕ, Bool, true, false, ◌&&◌, ◌||◌, ◌⊎◌}
use Rattle.std.proofs.Common.{inl, inr, cond, nat_eq, nat_lt, List, [], ◌∷◌, ◌++◌, length, refl}
use Rattle.std.proofs.Common.{sym, ap, subst, ◌∙◌, arith, Option, Some, None, option_map, min}
use Rattle.std.specs.Prelude.{find}
use Rattle.std.proofs.lemmas.Bool.Decides.{nat_tests}
use Rattle.std.proofs.Math.Nat.{min-eq_left}
use Rattle.std.proofs.lemmas.Bool.{le-ltb}
use Rattle.c_lex.specs.Vocabulary.{IsLongest, Word, Bad, BigLiteral, Int, Unsigned, LongLong, UnsignedLongLong, suffix, suffix_of, limit, types, type_of, literal, digit, digits, hexadecimal, punctuator_of, lone, punctuator}
use Rattle.c_lex.specs.Readers as readers
use Rattle.c_lex.specs.declared.integer.Suffix.{Suffix}
use Rattle.c_lex.specs.declared.token.IntegerType.{IntegerType}
use Rattle.c_lex.specs.IntegerReaders as integers
use Rattle.c_lex.proofs.Fronts.{by_test}
use Rattle.c_lex.proofs.Taking.{takes, same, Within, two_takes, three_takes}

-- ---- punctuators

punctuators_within : (b : ℕ) (text : List ℕ) → Within (punctuator b) text 2
unfolding punctuator punctuator_of
punctuators_within b text = record { within = λ m a y p q. go m y q }
  where
    go : (m : List ℕ) (y : Word) → punctuator b m ≡ Some y → length m ≤ 2
    go [] y q = omega arith
    go (c ∷ []) y q = omega arith
    go (c ∷ (d ∷ [])) y q = omega arith
    go (c ∷ (d ∷ (e ∷ m))) y q = absurd (cc)

punctuator_alone : (b : ℕ) → punctuator b [] ≡ Some (lone (punctuator_of (b ∷ [])))
unfolding punctuator
punctuator_alone b = refl

pub punctuators_take : (b : ℕ) (text : List ℕ)
    → (w : List ℕ) × IsLongest (punctuator b) text w
    (readers.two (punctuator b) (lone (punctuator_of (b ∷ []))) text).1
    (readers.two (punctuator b) (lone (punctuator_of (b ∷ []))) text).0
punctuators_take b text = two_takes (punctuator b) (lone (punctuator_of (b ∷ []))) text
    (punctuator_alone b) (punctuators_within b text)

-- ---- integers

suffixes_within : (text : List ℕ) → Within suffix_of text 3
unfolding suffix_of
suffixes_within text = record { within = λ m a y p q. go m y q }
  where
    go : (m : List ℕ) (y : Suffix) → suffix_of m ≡ Some y → length m ≤ 3
    go [] y q = omega arith
    go (c ∷ []) y q = omega arith
    go (c ∷ (d ∷ [])) y q = omega arith
    go (c ∷ (d ∷ (e ∷ []))) y q = omega arith
    go (c ∷ (d ∷ (e ∷ (f ∷ m)))) y q = absurd (cc)

plain : suffix_of [] ≡ Some (suffix false false)
unfolding suffix_of
plain = refl

abbrev read_suffix : List ℕ → Suffix × List ℕ
read_suffix text = readers.three suffix_of (suffix false false) text

suffixes_take : (text : List ℕ)
    → (w : List ℕ) × IsLongest suffix_of text w (read_suffix text).1 (read_suffix text).0
suffixes_take text = three_takes suffix_of (suffix false false) text plain (suffixes_within text)

-- a literal whose digits make n, by the suffix that follows
abbrev suffixed : ℕ → ℕ → List ℕ → Option Word
suffixed base n w = option_map (literal base n) (suffix_of w)

mapped : {A B : Type 0} (f : A → B) (of : List ℕ → Option A) (text w r : List ℕ) (x : A)
    → IsLongest of text w r x → IsLongest (λ v. option_map f (of v)) text w r (f x)
mapped {A = A} {B = B} f of text w r x k = record {
  split = k.split;
  is = ap (option_map f) k.is;
  longest = λ m a y p q. let s = source (of (w ++ m)) y q in k.longest m a s.0 p s.1;
}
  where
    source : (o : Option A) (y : B) → option_map f o ≡ Some y → (z : A) × (o ≡ Some z)
    source None y q = absurd (cc)
    source (Some z) y q = (z, refl)

-- what holds of the fronts of a text
fronts : (P : List ℕ → Type 0) (b : ℕ) (bs : List ℕ) → P [] → ((v : List ℕ) → P (b ∷ v))
    → (v a : List ℕ) → b ∷ bs ≡ v ++ a → P v
fronts P b bs none some [] a e = none
fronts P b bs none some (c ∷ v) a e = let h : b ≡ c = cc in subst (λ k. P (k ∷ v)) h (some v)

no_fronts : (P : List ℕ → Type 0) → P [] → (v a : List ℕ) → [] ≡ v ++ a → P v
no_fronts P none [] a e = none
no_fronts P none (c ∷ v) a e = absurd (cc)

-- what digits that make n, the digits after them and a suffix are
abbrev IsRead : ℕ → ℕ → List ℕ → ℕ × List ℕ → Type 0
IsRead base n text r = (w : List ℕ) × IsLongest (digits base n) text w (read_suffix r.1).1
    (literal base r.0 (read_suffix r.1).0)

pub digits_take : (base n : ℕ) (text : List ℕ) → IsRead base n text (readers.number base n text)
digits_take base n [] =
    let k = suffixes_take [] in (
      k.0,
      same (digits base n) (suffixed base n) [] k.0 (read_suffix []).1
          (literal base n (read_suffix []).0)
          (no_fronts (λ v. digits base n v ≡ suffixed base n v) refl)
          (mapped (literal base n) suffix_of [] k.0 (read_suffix []).1 (read_suffix []).0 k.1),
    )
digits_take base n (b ∷ bs) = by_test (IsRead base n (b ∷ bs)) (nat_lt (digit b) base)
    (readers.number base (base * n + digit b) bs) (n, b ∷ bs)
    (λ e.
    let r = readers.number base (base * n + digit b) bs in
    let k = digits_take base (base * n + digit b) bs in (
      b ∷ k.0,
      takes (digits base n) (digits base (base * n + digit b)) b bs k.0 (read_suffix r.1).1
          (literal base r.0 (read_suffix r.1).0) (λ v a q. rw e refl) k.1,
    ))
    (λ e.
    let k = suffixes_take (b ∷ bs) in
    let s = read_suffix (b ∷ bs) in (
      k.0,
      same (digits base n) (suffixed base n) (b ∷ bs) k.0 s.1 (literal base n s.0)
          (fronts (λ v. digits base n v ≡ suffixed base n v) b bs refl (λ v. rw e refl))
          (mapped (literal base n) suffix_of (b ∷ bs) k.0 s.1 s.0 k.1),
    ))

-- no type holds 2 ^ 64 or above
none_holds : (decimal unsigned long_long : Bool) (n : ℕ) → nat_lt n (2 ^ 31) ≡ false
    → nat_lt n (2 ^ 32) ≡ false → nat_lt n (2 ^ 63) ≡ false → nat_lt n (2 ^ 64) ≡ false
    → find (λ t. nat_lt n (limit t)) (types decimal unsigned long_long) ≡ None
none_holds true true true n a b c d = rw (d) refl
none_holds true true false n a b c d = rw (b, d) refl
none_holds true false true n a b c d = rw (c, d) refl
none_holds true false false n a b c d = rw (a, c, d) refl
none_holds false true true n a b c d = rw (d) refl
none_holds false true false n a b c d = rw (b, d) refl
none_holds false false true n a b c d = rw (c, d) refl
none_holds false false false n a b c d = rw (a, b, c, d) refl

big : (base n : ℕ) (s : Suffix) → 2 ^ 64 ≤ n → literal base n s ≡ Bad BigLiteral
unfolding literal type_of
big base n s h = rw (none_holds (nat_eq base 10) s.unsigned s.long_long n
    (le-ltb n (2 ^ 31) (omega arith)) (le-ltb n (2 ^ 32) (omega arith))
    (le-ltb n (2 ^ 63) (omega arith)) (le-ltb n (2 ^ 64) h)) refl

capped : (base n : ℕ) (s : Suffix) → literal base (min n (2 ^ 64)) s ≡ literal base n s
capped base n s = by (nat_lt n (2 ^ 64)) refl
  where
    by : (t : Bool) → nat_lt n (2 ^ 64) ≡ t → literal base (min n (2 ^ 64)) s ≡ literal base n s
    by true e = let h : n ≤ 2 ^ 64 = grind (arith, nat_tests) in rw (min-eq_left h) refl
    by false e = let h : 2 ^ 64 ≤ n = grind (arith, nat_tests) in
        big base (min n (2 ^ 64)) s (omega arith) ∙ sym (big base n s h)

pub digits_found : (base start : ℕ) (text rest after : List ℕ) (value : ℕ) (s : Suffix)
    (word : Word)
    → value ≡ min (readers.number base start text).0 (2 ^ 64)
    → rest ≡ (readers.number base start text).1
    → (s, after) ≡ read_suffix rest → word ≡ literal base value s
    → (w : List ℕ) × IsLongest (digits base start) text w after word
digits_found base start text rest after value s word v r p l =
    let k = digits_take base start text in
    let n = readers.number base start text in
    let q : (s, after) ≡ read_suffix n.1 = p ∙ ap read_suffix r in
    let x : word ≡ literal base n.0 s = l ∙ ap (λ m. literal base m s) v ∙ capped base n.0 s in (
      k.0,
      subst (λ (y : Word). IsLongest (digits base start) text k.0 after y) (sym x)
          (subst (λ (y : Suffix × List ℕ). IsLongest (digits base start) text k.0 y.1
          (literal base n.0 y.0)) (sym q) k.1),
    )

-- ---- a first 0

pub and_true : (a b : Bool) → (a && b) ≡ true → (a ≡ true) × (b ≡ true)
and_true true b e = (refl, e)
and_true false b e = absurd (cc)

pub or_true : (a b : Bool) → (a || b) ≡ true → (a ≡ true) ⊎ (b ≡ true)
or_true true b e = inl refl
or_true false b e = inr e

chosen : {X : Type 0} (t : Bool) (x y : X) → cond t (Some x) None ≡ Some y → (t ≡ true) × (x ≡ y)
chosen true x y e = (refl, cc)
chosen false x y e = absurd (cc)

not_chosen : {X : Type 0} (t : Bool) (x : X) → cond t (Some x) None ≡ None → t ≡ false
not_chosen true x e = absurd (cc)
not_chosen false x e = refl

no_octal : (v : List ℕ) → (digits 8 0 (120 ∷ v) ≡ None) × (digits 8 0 (88 ∷ v) ≡ None)
unfolding digit suffix_of
no_octal [] = (refl, refl)
no_octal (a ∷ []) = (refl, refl)
no_octal (a ∷ (b ∷ [])) = (refl, refl)
no_octal (a ∷ (b ∷ (c ∷ v))) = (refl, refl)

no_octal_x : (c : ℕ) (v : List ℕ) → (nat_eq c 120 || nat_eq c 88) ≡ true → digits 8 0 (c ∷ v) ≡ None
no_octal_x c v e = by (or_true (nat_eq c 120) (nat_eq c 88) e)
  where
    by : (nat_eq c 120 ≡ true) ⊎ (nat_eq c 88 ≡ true) → digits 8 0 (c ∷ v) ≡ None
    by (inl h) = let k : c ≡ 120 = grind (arith, nat_tests) in
        subst (λ b. digits 8 0 (b ∷ v) ≡ None) (sym k) (no_octal v).0
    by (inr h) = let k : c ≡ 88 = grind (arith, nat_tests) in
        subst (λ b. digits 8 0 (b ∷ v) ≡ None) (sym k) (no_octal v).1

zero_octal : (text : List ℕ) → readers.hexadecimal text ≡ None → (v a : List ℕ) → text ≡ v ++ a
    → integers.zero v ≡ digits 8 0 v
zero_octal text n [] a e = refl
zero_octal text n (c ∷ v) a e = by (nat_eq c 120 || nat_eq c 88) refl
  where
    by : (t : Bool) → (nat_eq c 120 || nat_eq c 88) ≡ t → integers.zero (c ∷ v) ≡ digits 8 0 (c ∷ v)
    by false h = rw h refl
    by true h = rw h (following v e ∙ sym (no_octal_x c v h))
      where
        following : (v : List ℕ) → text ≡ c ∷ v ++ a → hexadecimal v ≡ None
        following [] e = refl
        following (d ∷ v) e =
            let k : cond ((nat_eq c 120 || nat_eq c 88) && nat_lt (digit d) 16)
            (Some (digit d, v ++ a)) None ≡ None =
            subst (λ l. readers.hexadecimal l ≡ None) e n in
            let f : (true && nat_lt (digit d) 16) ≡ false =
            subst (λ b. (b && nat_lt (digit d) 16) ≡ false) h
            (not_chosen ((nat_eq c 120 || nat_eq c 88) && nat_lt (digit d) 16) (digit d, v ++ a)
            k) in
            rw f refl

pub zero_found : (text rest after : List ℕ) (start : ℕ) (word : Word)
    → Some (start, rest) ≡ readers.hexadecimal text
    → (w : List ℕ) × IsLongest (digits 16 start) rest w after word
    → (w : List ℕ) × IsLongest integers.zero text w after word
zero_found [] rest after start word e k = absurd (cc)
zero_found (x ∷ []) rest after start word e k = absurd (cc)
zero_found (x ∷ (b ∷ bs)) rest after start word e k =
    let c = chosen ((nat_eq x 120 || nat_eq x 88) && nat_lt (digit b) 16) (digit b, bs)
    (start, rest) (sym e) in
    let t = and_true (nat_eq x 120 || nat_eq x 88) (nat_lt (digit b) 16) c.0 in
    let t0 = t.0 in
    let t1 = t.1 in
    let d : digit b ≡ start = ap (λ (p : ℕ × List ℕ). p.0) c.1 in
    let r : bs ≡ rest = ap (λ (p : ℕ × List ℕ). p.1) c.1 in
    let l : IsLongest (digits 16 (digit b)) bs k.0 after word =
    subst (λ (s : ℕ). IsLongest (digits 16 s) bs k.0 after word) (sym d)
    (subst (λ (l : List ℕ). IsLongest (digits 16 start) l k.0 after word) (sym r) k.1) in (
      x ∷ b ∷ k.0,
      takes integers.zero hexadecimal x (b ∷ bs) (b ∷ k.0) after word (λ v a q. rw t0 refl)
          (takes hexadecimal (digits 16 (digit b)) b bs k.0 after word (λ v a q. rw t1 refl) l),
    )

pub zero_alone : (text after : List ℕ) (word : Word) → None ≡ readers.hexadecimal text
    → (w : List ℕ) × IsLongest (digits 8 0) text w after word
    → (w : List ℕ) × IsLongest integers.zero text w after word
zero_alone text after word e k =
    (k.0, same integers.zero (digits 8 0) text k.0 after word (zero_octal text (sym e)) k.1)

-- ---- types

pub found_passes : {A : Type 0} (p : A → Bool) (xs : List A) (x : A) → find p xs ≡ Some x
    → p x ≡ true
found_passes p [] x e = absurd (cc)
found_passes {A = A} p (y ∷ ys) x e = by (p y) refl e (found_passes p ys x)
  where
    by : (t : Bool) → p y ≡ t → cond t (Some y) (find p ys) ≡ Some x
        → (find p ys ≡ Some x → p x ≡ true) → p x ≡ true
    by true h e f = let s : y ≡ x = cc in subst (λ (z : A). p z ≡ true) s h
    by false h e f = f e

-- a type holds values below 2 ^ 64 alone
pub type_holds : (decimal : Bool) (s : Suffix) (n : ℕ) (t : IntegerType)
    → type_of decimal s n ≡ Some t → n < 2 ^ 64
unfolding type_of
type_holds decimal s n t e =
    below t (found_passes (λ u. nat_lt n (limit u)) (types decimal s.unsigned s.long_long) t e)
  where
    below : (t : IntegerType) → nat_lt n (limit t) ≡ true → n < 2 ^ 64
    below Int h = let k : n < 2 ^ 31 = grind (arith, nat_tests) in omega arith
    below Unsigned h = let k : n < 2 ^ 32 = grind (arith, nat_tests) in omega arith
    below LongLong h = let k : n < 2 ^ 63 = grind (arith, nat_tests) in omega arith
    below UnsignedLongLong h = grind (arith, nat_tests)
