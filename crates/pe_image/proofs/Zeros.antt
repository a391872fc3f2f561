-- Where the first 0 of a list is, by its parts.
use Rattle.std.proofs.Common.{◌≡◌, ℕ, ◌+◌, ◌-◌, ◌<◌, ◌≤◌, ◌==◌, Bool, true, false, cond, ltb, List, length, take, drop, get_or, position, Some, None, ap, sym, ◌∙◌, inl, inr, arith}
use Rattle.std.specs.List.{position_or_len}
use Rattle.std.proofs.lemmas.Bool.{cases_lt, lt-ltb}
use Rattle.std.proofs.lemmas.List.{get_or-drop, get_or-take, length-drop, length-take-le}
use Rattle.std.proofs.lemmas.List.Quantifiers.{position-Some}
use Rattle.std.proofs.lemmas.List.Sums.{position_or_len_is, fails_before_first}

abbrev pub is_zero : ℕ → Bool
is_zero b = b == 0

-- by what is there and before
is_there : (xs : List ℕ) (i : ℕ) → i < length xs
    → ((k : ℕ) → k < i → is_zero (get_or xs k 0) ≡ false) → is_zero (get_or xs i 0) ≡ true
    → position is_zero xs ≡ Some i
is_there xs i lt before here =
    let e : position_or_len is_zero xs ≡ i = position_or_len_is is_zero xs i 0 (omega arith) before
    (λ _. here) in
    ap (λ (n : ℕ). cond (ltb n (length xs)) (Some n) None) e
    ∙ ap (λ (b : Bool). cond b (Some i) None) (lt-ltb i (length xs) lt)

none_is_at : (xs : List ℕ) → position is_zero xs ≡ None → (k : ℕ) → k < length xs
    → is_zero (get_or xs k 0) ≡ false
none_is_at xs none k lt = elim (cases_lt (position_or_len is_zero xs) (length xs)) [
  | inl found ↦ let e = sym (ap (λ (b : Bool). cond b (Some (position_or_len is_zero xs)) None)
      (lt-ltb (position_or_len is_zero xs) (length xs) found)) ∙ none in cc
  | inr past ↦ fails_before_first is_zero xs k 0 (omega arith)
]

pub first_after : (n i : ℕ) (xs : List ℕ) → n ≤ i → position is_zero xs ≡ Some i
    → position is_zero (drop n xs) ≡ Some (i - n)
first_after n i xs le e =
    let p = position-Some is_zero xs i 0 e in
    let there : n + (i - n) ≡ i = omega arith in
    is_there (drop n xs) (i - n) (omega (arith, length-drop n xs, p.0))
    (λ k lt. ap is_zero (get_or-drop n xs k 0) ∙ p.2 (n + k) (omega arith))
    (ap is_zero (get_or-drop n xs (i - n) 0) ∙ ap (λ j. is_zero (get_or xs j 0)) there ∙ p.1)

pub first_in_front : (n i : ℕ) (xs : List ℕ) → n ≤ length xs → position is_zero (take n xs) ≡ Some i
    → position is_zero xs ≡ Some i
first_in_front n i xs le e =
    let p = position-Some is_zero (take n xs) i 0 e in
    let lt : i < n = omega (arith, length-take-le n xs le, p.0) in
    is_there xs i (omega arith)
    (λ k before. sym (ap is_zero (get_or-take n xs k 0 (omega arith))) ∙ p.2 k before)
    (sym (ap is_zero (get_or-take n xs i 0 lt)) ∙ p.1)

pub first_past_front : (n i : ℕ) (xs : List ℕ) → n ≤ length xs → position is_zero (take n xs) ≡ None
    → position is_zero (drop n xs) ≡ Some i → position is_zero xs ≡ Some (n + i)
first_past_front n i xs le none e =
    let p = position-Some is_zero (drop n xs) i 0 e in
    is_there xs (n + i) (omega (arith, length-drop n xs, p.0))
    (λ k before. elim (cases_lt k n) [
      | inl lt ↦ sym (ap is_zero (get_or-take n xs k 0 lt))
          ∙ none_is_at (take n xs) none k (omega (arith, length-take-le n xs le))
      | inr ge ↦
          let there : n + (k - n) ≡ k = omega arith in
          sym (ap (λ j. is_zero (get_or xs j 0)) there)
          ∙ sym (ap is_zero (get_or-drop n xs (k - n) 0)) ∙ p.2 (k - n) (omega arith)
    ])
    (sym (ap is_zero (get_or-drop n xs i 0)) ∙ p.1)
