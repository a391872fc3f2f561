-- The difference of two numbers of a width: when it is 0, and what its sign and overflow say.
use Rattle.std.proofs.Common.{◌≡◌, ◌≢◌, ℕ, ◌+◌, ◌-◌, ◌<◌, ◌≤◌, Bool, true, false, leb, eqb, ℤ, pos, negsuc, ◌-ℤ◌, refl, sym, ap, ◌∙◌, arith, inl, inr}
use Rattle.std.specs.Prelude.{not, int_lt}
use Rattle.std.proofs.lemmas.Bool.{cases_lt, cases_eq, lt-ltb, le-ltb, le-leb, lt-leb, eq-eqb, ne_eqb}
use Rattle.std.proofs.lemmas.Int.{ints}
use Rattle.seh_num.specs.declared.width.Width.{Width}
use Rattle.seh_num.specs.Widths.{limit, half, low, signed}
use Rattle.seh_num.specs.Division.{is_signed}
use Rattle.x64_machine.specs.Shifts.{differ}
use Rattle.x64_machine.proofs.Numbers.{limits, low_is, low_over, signed_low, signed_high}

-- it is 0 exactly where the two are equal
pub difference_zero : (w : Width) (a b : ℕ) → a < limit w → b < limit w
    → eqb (low w (a + (limit w - b))) 0 ≡ eqb a b
difference_zero w a b la lb = elim (cases_lt a b) [
  | inl lt ↦
      let n : ℕ = a + (limit w - b) in
      let some : low w n ≢ 0 = λ e. let k = low_is w n (omega arith) in absurd (omega arith) in
      ne_eqb (low w n) 0 some ∙ sym (ne_eqb a b (λ e. absurd (omega arith)))
  | inr ge ↦
      let n : ℕ = a + (limit w - b) in
      let r : low w n ≡ a - b = low_over w n (omega arith) (omega arith)
      ∙ (let q : n - limit w ≡ a - b = omega arith in q) in
      ap (λ (k : ℕ). eqb k 0) r ∙ whole_zero a b ge
]
  where
    whole_zero : (a b : ℕ) → b ≤ a → eqb (a - b) 0 ≡ eqb a b
    whole_zero a b ge = elim (cases_eq a b) [
      | inl e ↦ eq-eqb (a - b) 0 (omega arith) ∙ sym (eq-eqb a b e)
      | inr n ↦ ne_eqb (a - b) 0 (λ z. n (omega arith)) ∙ sym (ne_eqb a b n)
    ]

-- ---- less

Less : Width → ℕ → ℕ → Type 0
Less w a b = differ (leb (half w) (low w (a + (limit w - b))))
    (not (is_signed w (signed w a -ℤ signed w b))) ≡ int_lt (signed w a) (signed w b)

less_by : (w : Width) (a b r : ℕ) (x y d : ℤ) (s t l : Bool) → signed w a ≡ x → signed w b ≡ y
    → x -ℤ y ≡ d → low w (a + (limit w - b)) ≡ r → leb (half w) r ≡ s → is_signed w d ≡ t
    → int_lt x y ≡ l → differ s (not t) ≡ l → Less w a b
unfolding Less
less_by w a b r x y d s t l ex ey ed er es et el e =
    let diff : signed w a -ℤ signed w b ≡ d = ap (λ (z : ℤ). z -ℤ signed w b) ex
    ∙ ap (λ (z : ℤ). x -ℤ z) ey ∙ ed in
    ap (λ (n : ℕ). differ (leb (half w) n) (not (is_signed w (signed w a -ℤ signed w b)))) er
    ∙ ap (λ (c : Bool). differ c (not (is_signed w (signed w a -ℤ signed w b)))) es
    ∙ ap (λ (z : ℤ). differ s (not (is_signed w z))) diff
    ∙ ap (λ (c : Bool). differ s (not c)) et
    ∙ e
    ∙ sym (ap (λ (z : ℤ). int_lt z (signed w b)) ex ∙ ap (λ (z : ℤ). int_lt x z) ey ∙ el)

both_low : (w : Width) (a b : ℕ) → a < half w → b < half w → Less w a b
both_low w a b la lb =
    let two = limits w in
    elim (cases_lt a b) [
      | inl lt ↦ less_by w a b (a + (limit w - b)) (pos a) (pos b) (negsuc (b - a - 1)) true true
          true (signed_low w a la) (signed_low w b lb) (omega (arith, ints))
          (low_is w (a + (limit w - b)) (omega arith))
          (le-leb (half w) (a + (limit w - b)) (omega arith))
          (lt-ltb (b - a - 1) (half w) (omega arith)) (lt-ltb a b lt) refl
      | inr ge ↦ less_by w a b (a - b) (pos a) (pos b) (pos (a - b)) false true false
          (signed_low w a la) (signed_low w b lb) (omega (arith, ints))
          (low_over w (a + (limit w - b)) (omega arith) (omega arith)
          ∙ (let q : a + (limit w - b) - limit w ≡ a - b = omega arith in q))
          (lt-leb (half w) (a - b) (omega arith)) (lt-ltb (a - b) (half w) (omega arith))
          (le-ltb a b ge) refl
    ]

both_high : (w : Width) (a b : ℕ) → half w ≤ a → a < limit w → half w ≤ b → b < limit w → Less w a b
both_high w a b ga la gb lb =
    let two = limits w in
    elim (cases_lt a b) [
      | inl lt ↦ less_by w a b (a + (limit w - b)) (negsuc (limit w - 1 - a))
          (negsuc (limit w - 1 - b)) (negsuc (b - a - 1)) true true true (signed_high w a ga la)
          (signed_high w b gb lb) (omega (arith, ints)) (low_is w (a + (limit w - b)) (omega arith))
          (le-leb (half w) (a + (limit w - b)) (omega arith))
          (lt-ltb (b - a - 1) (half w) (omega arith))
          (lt-ltb (limit w - 1 - b) (limit w - 1 - a) (omega arith)) refl
      | inr ge ↦ less_by w a b (a - b) (negsuc (limit w - 1 - a)) (negsuc (limit w - 1 - b))
          (pos (a - b)) false true false (signed_high w a ga la) (signed_high w b gb lb)
          (omega (arith, ints)) (low_over w (a + (limit w - b)) (omega arith) (omega arith)
          ∙ (let q : a + (limit w - b) - limit w ≡ a - b = omega arith in q))
          (lt-leb (half w) (a - b) (omega arith)) (lt-ltb (a - b) (half w) (omega arith))
          (le-ltb (limit w - 1 - b) (limit w - 1 - a) (omega arith)) refl
    ]

low_high : (w : Width) (a b : ℕ) → a < half w → half w ≤ b → b < limit w → Less w a b
low_high w a b la gb lb =
    let two = limits w in
    let n : ℕ = a + (limit w - b) in
    elim (cases_lt n (half w)) [
      | inl lt ↦ less_by w a b n (pos a) (negsuc (limit w - 1 - b)) (pos n) false true false
          (signed_low w a la) (signed_high w b gb lb) (omega (arith, ints))
          (low_is w n (omega arith))
          (lt-leb (half w) n lt) (lt-ltb n (half w) lt) refl refl
      | inr ge ↦ less_by w a b n (pos a) (negsuc (limit w - 1 - b)) (pos n) true false false
          (signed_low w a la) (signed_high w b gb lb) (omega (arith, ints))
          (low_is w n (omega arith))
          (le-leb (half w) n ge) (le-ltb n (half w) ge) refl refl
    ]

high_low : (w : Width) (a b : ℕ) → half w ≤ a → a < limit w → b < half w → Less w a b
high_low w a b ga la lb =
    let two = limits w in
    let m : ℕ = limit w - 1 - a + b in
    elim (cases_lt (a - b) (half w)) [
      | inl lt ↦ less_by w a b (a - b) (negsuc (limit w - 1 - a)) (pos b) (negsuc m) false false
          true (signed_high w a ga la) (signed_low w b lb) (omega (arith, ints))
          (low_over w (a + (limit w - b)) (omega arith) (omega arith)
          ∙ (let q : a + (limit w - b) - limit w ≡ a - b = omega arith in q))
          (lt-leb (half w) (a - b) lt) (le-ltb m (half w) (omega arith)) refl refl
      | inr ge ↦ less_by w a b (a - b) (negsuc (limit w - 1 - a)) (pos b) (negsuc m) true true true
          (signed_high w a ga la) (signed_low w b lb) (omega (arith, ints))
          (low_over w (a + (limit w - b)) (omega arith) (omega arith)
          ∙ (let q : a + (limit w - b) - limit w ≡ a - b = omega arith in q))
          (le-leb (half w) (a - b) ge) (lt-ltb m (half w) (omega arith)) refl refl
    ]

-- the sign and the overflow of the difference differ exactly where the first is less
pub signed_less : (w : Width) (a b : ℕ) → a < limit w → b < limit w
    → differ (leb (half w) (low w (a + (limit w - b))))
    (not (is_signed w (signed w a -ℤ signed w b))) ≡ int_lt (signed w a) (signed w b)
unfolding Less
signed_less w a b la lb = elim (cases_lt a (half w)) [
  | inl ha ↦ elim (cases_lt b (half w)) [
    | inl hb ↦ both_low w a b ha hb
    | inr hb ↦ low_high w a b ha
        hb lb
  ]
  | inr ha ↦ elim (cases_lt b (half w)) [
    | inl hb ↦ high_low w a b ha la hb
    | inr hb ↦ both_high w a
        b ha la hb lb
  ]
]
