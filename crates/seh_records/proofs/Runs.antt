-- Runs of bytes and of words.
use Rattle.std.proofs.Common.{◌≡◌, ℕ, zero, suc, ◌+◌, ◌-◌, ◌*◌, ◌%◌, ◌^◌, ◌<◌, ◌≤◌, Bool, true, false, cond, Option, Some, None, List, [], ◌∷◌, ◌++◌, length, take, drop, set, get_or, append_assoc, add-one, drop-cons, refl, sym, ap, ◌∙◌, arith}
use Rattle.std.proofs.lemmas.List.{take_more_set}
use Rattle.std.specs.Prelude.{Ok, Err}
use Rattle.flat_memory.specs.declared.access.RefusedAccess.{RefusedAccess}
use Rattle.seh_num.specs.declared.width.Width.{Width}
use Rattle.seh_records.specs.Vocabulary.{W64, bytes_of, Memory, next, first_refused, may_read, may_write, loaded, access, number_at, with_number, with_bytes, after_store, unless_refused, with_words, words_at}

-- the first refused of two runs
abbrev pub or_else : Option ℕ → Option ℕ → Option ℕ
or_else None o = o
or_else (Some a) o = Some a

pub first_refused-append : (may : ℕ → Bool) (n k at : ℕ) → at < 2 ^ 64
    → first_refused may (n + k) at ≡ or_else (first_refused may n at)
    (first_refused may k ((at + n) % 2 ^ 64))
unfolding first_refused
first_refused-append may zero k at lt = let e : (at + 0) % 2 ^ 64 ≡ at = omega arith in
    let f : 0 + k ≡ k = omega arith in ap (λ j. first_refused may j at) f
    ∙ ap (first_refused may k) (sym e)
first_refused-append may (suc n) k at lt =
    let f : suc n + k ≡ suc (n + k) = omega arith in
    let e : (next at + n) % 2 ^ 64 ≡ (at + suc n) % 2 ^ 64 = omega arith in
    ap (λ j. first_refused may j at) f ∙ here (may at)
    (first_refused-append may n k (next at) (omega arith)
    ∙ ap (λ a. or_else (first_refused may n (next at)) (first_refused may k a)) e)
  where
    here : (b : Bool) → first_refused may (n + k) (next at)
        ≡ or_else (first_refused may n (next at)) (first_refused may k ((at + suc n) % 2 ^ 64))
        → cond b (first_refused may (n + k) (next at)) (Some at)
        ≡ or_else (cond b (first_refused may n (next at)) (Some at))
        (first_refused may k ((at + suc n) % 2 ^ 64))
    here true h = h
    here false h = refl

none_first : (o p : Option ℕ) → or_else o p ≡ None → o ≡ None
none_first None p e = refl
none_first (Some a) p e = absurd cc

none_second : (o p : Option ℕ) → or_else o p ≡ None → p ≡ None
none_second None p e = e
none_second (Some a) p e = absurd cc

-- a run within one that isn't refused isn't either
pub none_front : (may : ℕ → Bool) (n k j at : ℕ) → at < 2 ^ 64 → n ≡ k + j
    → first_refused may n at ≡ None → first_refused may k at ≡ None
none_front may n k j at lt e h = none_first _ _
    (sym (first_refused-append may k j at lt) ∙ ap (λ i. first_refused may i at) (sym e) ∙ h)

pub none_rest : (may : ℕ → Bool) (n k j at : ℕ) → at < 2 ^ 64 → n ≡ k + j
    → first_refused may n at ≡ None → first_refused may j ((at + k) % 2 ^ 64) ≡ None
none_rest may n k j at lt e h = none_second (first_refused may k at) _
    (sym (first_refused-append may k j at lt) ∙ ap (λ i. first_refused may i at) (sym e) ∙ h)

pub none_within : (may : ℕ → Bool) (n o k at : ℕ) → at < 2 ^ 64 → o + k ≤ n
    → first_refused may n at ≡ None → first_refused may k ((at + o) % 2 ^ 64) ≡ None
none_within may n o k at lt le h = none_front may (n - o) k (n - o - k) ((at + o) % 2 ^ 64)
    (omega arith) (omega arith) (none_rest may n o (n - o) at lt (omega arith) h)

-- one word more
pub words-more : (may : ℕ → Bool) (n j at : ℕ) → at < 2 ^ 64 → n ≡ j + 1
    → first_refused may 8 at ≡ None → first_refused may (8 * j) ((at + 8) % 2 ^ 64)
    ≡ first_refused may (8 * n) at
words-more may n j at lt e h = let f : 8 * n ≡ 8 + 8 * j = omega arith in
    sym (ap (λ i. first_refused may i at) f ∙ first_refused-append may 8 (8 * j) at lt
    ∙ ap (λ o. or_else o (first_refused may (8 * j) ((at + 8) % 2 ^ 64))) h)

pub words-refused : (may : ℕ → Bool) (n a at : ℕ) → at < 2 ^ 64 → 0 < n
    → first_refused may 8 at ≡ Some a → first_refused may (8 * n) at ≡ Some a
words-refused may n a at lt pos h = let f : 8 * n ≡ 8 + 8 * (n - 1) = omega arith in
    ap (λ i. first_refused may i at) f ∙ first_refused-append may 8 (8 * (n - 1)) at lt
    ∙ ap (λ o. or_else o (first_refused may (8 * (n - 1)) ((at + 8) % 2 ^ 64))) h

pub no-words : (may : ℕ → Bool) (n at : ℕ) → n ≡ 0 → first_refused may (8 * n) at ≡ None
unfolding first_refused
no-words may n at e = let f : 8 * n ≡ 0 = omega arith in ap (λ i. first_refused may i at) f

pub ruleset refused_steps = (words-more, words-refused, no-words)

pub with_words-more : (byte : ℕ → ℕ) (at i : ℕ) (ws : List ℕ) → i < length ws
    → with_words (with_number byte 8 at (get_or ws i 0)) ((at + 8) % 2 ^ 64) (drop (i + 1) ws)
    ≡ with_words byte at (drop i ws)
unfolding with_words
with_words-more byte at i ws lt = rw (add-one, drop-cons ws i 0) refl

pub with_words-none : (byte : ℕ → ℕ) (at i : ℕ) (ws : List ℕ) → length ws ≤ i
    → with_words byte at (drop i ws) ≡ byte
unfolding with_words
with_words-none byte at i ws le = ap (with_words byte at) (drop-all ws i le)
  where
    drop-all : (ws : List ℕ) (i : ℕ) → length ws ≤ i → drop i ws ≡ []
    drop-all [] zero le = refl
    drop-all [] (suc i) le = refl
    drop-all (w ∷ ws) zero le = absurd (omega arith)
    drop-all (w ∷ ws) (suc i) le = drop-all ws i (omega arith)

-- a store of a word that isn't refused
pub word_stored : (m new : Memory) (at v : ℕ) → new ≡ after_store m at W64 v
    → first_refused (may_write m) 8 at ≡ None → new ≡ with_bytes m (with_number m.byte 8 at v)
word_stored m new at v e h = e ∙ ap (λ o. unless_refused o
    (with_bytes m (with_number m.byte 8 at v)) m) h

-- ---- reading

pub words_at-more : (byte : ℕ → ℕ) (n k at : ℕ) → n ≡ k + 1
    → words_at byte n at ≡ number_at byte 8 at ∷ words_at byte k ((at + 8) % 2 ^ 64)
unfolding words_at
words_at-more byte zero k at e = absurd (omega arith)
words_at-more byte (suc n) k at e = let h : n ≡ k = omega arith in
    ap (λ j. number_at byte 8 at ∷ words_at byte j ((at + 8) % 2 ^ 64)) h

pub words_at-zero : (byte : ℕ → ℕ) (n at : ℕ) → n ≡ 0 → words_at byte n at ≡ []
unfolding words_at
words_at-zero byte zero at e = refl
words_at-zero byte (suc n) at e = absurd (omega arith)

pub one_more : (xs all rest : List ℕ) (i b : ℕ) → i < length xs → all ≡ take i xs ++ (b ∷ rest)
    → all ≡ take (i + 1) (set xs i b) ++ rest
one_more xs all rest i b lt e =
    e ∙ sym (append_assoc (take i xs) (b ∷ []) rest)
    ∙ ap (λ (t : List ℕ). t ++ rest) (sym (take_more_set xs i b lt))

-- a load of readable bytes isn't refused
pub granted : (m : Memory) (at : ℕ) (w : Width) (x : RefusedAccess)
    → first_refused (may_read m) (bytes_of w) at ≡ None → Err x ≡ loaded m at w → ⊥
granted m at w x h e = let f : loaded m at w ≡ Ok (number_at m.byte (bytes_of w) at) = ap
    (λ o. access false o (number_at m.byte (bytes_of w) at)) h in cc
