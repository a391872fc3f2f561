-- The comparison of two numbers that each condition is after CMP.
use Rattle.std.proofs.Common.{◌≡◌, ◌≢◌, ℕ, ◌+◌, ◌-◌, ◌<◌, Bool, true, false, ltb, leb, eqb, ℤ, pos, negsuc, ◌-ℤ◌, refl, sym, ap, ◌∙◌, arith, inl, inr}
use Rattle.std.specs.Prelude.{not, ◌||◌, int_lt, int_le}
use Rattle.std.proofs.lemmas.Bool.{cases_lt, cases_eq, lt-ltb, le-ltb, le-leb, lt-leb, eq-eqb, ne_eqb}
use Rattle.x64_laws.specs.Words.{Width, limit, half, low, signed, wrapped, is_signed, subtracted, differ, compares}
use Rattle.x64_instr.specs.declared.instruction.Condition.{Condition}
use Rattle.x64_instr.specs.declared.instruction.Condition.TheVariants as conditions
use Rattle.x64_machine.specs.Conditions.{holds}
use Rattle.x64_laws.proofs.Lemmas.{low_below, signed_low, signed_high}
use Rattle.x64_machine.proofs.Differences.{difference_zero, signed_less}
use Rattle.x64_laws.proofs.Numbers.{wrapped_signed}
use Rattle.x64_laws.proofs.Results.{difference_bits}

-- ---- equality, and its union with an order

not_below : (a b : ℕ) → not (ltb a b) ≡ leb b a
not_below a b = elim (cases_lt a b) [
  | inl lt ↦ ap not (lt-ltb a b lt) ∙ sym (lt-leb b a lt)
  | inr ge ↦ ap not (le-ltb a b ge) ∙ sym (le-leb b a ge)
]

below_or_equal : (a b : ℕ) → (ltb a b || eqb a b) ≡ leb a b
below_or_equal a b = elim (cases_lt a b) [
  | inl lt ↦ ap (λ (t : Bool). t || eqb a b) (lt-ltb a b lt) ∙ sym (le-leb a b (omega arith))
  | inr ge ↦ ap (λ (t : Bool). t || eqb a b) (le-ltb a b ge) ∙ elim (cases_eq a b) [
    | inl e ↦ eq-eqb a b e ∙ sym (le-leb a b (omega arith))
    | inr n ↦ ne_eqb a b n ∙ sym (lt-leb a b (let o : b < a = omega arith in o))
  ]
]

not_below_or_equal : (a b : ℕ) → not (leb a b) ≡ ltb b a
not_below_or_equal a b = elim (cases_lt b a) [
  | inl lt ↦ ap not (lt-leb a b lt) ∙ sym (lt-ltb b a lt)
  | inr ge ↦ ap not (le-leb a b ge) ∙ sym (le-ltb b a ge)
]

not_less : (x y : ℤ) → not (int_lt x y) ≡ int_le y x
not_less (pos a) (pos b) = not_below a b
not_less (pos a) (negsuc b) = refl
not_less (negsuc a) (pos b) = refl
not_less (negsuc a) (negsuc b) = not_below b a

-- two numbers are equal where what they represent is
equal_signed : (w : Width) (a b : ℕ) → a < limit w → b < limit w → (x y : ℤ) → signed w a ≡ x
    → signed w b ≡ y → (eqb a b || int_lt x y) ≡ int_le x y
equal_signed w a b la lb x y ex ey = elim (cases_eq a b) [
  | inl e ↦
      let same : x ≡ y = sym ex ∙ ap (signed w) e ∙ ey in
      ap (λ (t : Bool). t || int_lt x y) (eq-eqb a b e)
      ∙ sym (ap (λ (z : ℤ). int_le x z) (sym same) ∙ self x)
  | inr n ↦ ap (λ (t : Bool). t || int_lt x y) (ne_eqb a b n)
      ∙ strict x y (λ e. n (signed_once w a b la lb (ex ∙ e ∙ sym ey)))
]
  where
    self : (x : ℤ) → int_le x x ≡ true
    self (pos a) = le-leb a a (omega arith)
    self (negsuc a) = le-leb a a (omega arith)

    strict_nat : (a b : ℕ) → a ≢ b → ltb a b ≡ leb a b
    strict_nat a b n = elim (cases_lt a b) [
      | inl lt ↦ lt-ltb a b lt ∙ sym (le-leb a b (omega arith))
      | inr ge ↦ le-ltb a b ge ∙ sym (lt-leb a b (let o : b < a = omega arith in o))
    ]

    strict : (x y : ℤ) → x ≢ y → int_lt x y ≡ int_le x y
    strict (pos a) (pos b) n = strict_nat a b (λ e. n (ap pos e))
    strict (pos a) (negsuc b) n = refl
    strict (negsuc a) (pos b) n = refl
    strict (negsuc a) (negsuc b) n = strict_nat b a (λ e. n (ap negsuc (sym e)))

    signed_once : (w : Width) (a b : ℕ) → a < limit w → b < limit w → signed w a ≡ signed w b
        → a ≡ b
    signed_once w a b la lb e = sym (wrapped_signed w a la) ∙ ap (wrapped w) e
        ∙ wrapped_signed w b lb

-- ---- the sign of the difference

sign_is : (w : Width) (r : ℕ) (z : ℤ) → r < limit w → r ≡ wrapped w z
    → leb (half w) r ≡ int_lt (signed w (wrapped w z)) (pos 0)
sign_is w r z lt e = elim (cases_lt r (half w)) [
  | inl l ↦ lt-leb (half w) r l ∙ sym (ap (λ (k : ℕ). int_lt (signed w k) (pos 0)) (sym e)
      ∙ ap (λ (x : ℤ). int_lt x (pos 0)) (signed_low w r l) ∙ le-ltb r 0 (omega arith))
  | inr g ↦ le-leb (half w) r g ∙ sym (ap (λ (k : ℕ). int_lt (signed w k) (pos 0)) (sym e)
      ∙ ap (λ (x : ℤ). int_lt x (pos 0)) (signed_high w r g lt))
]

-- ---- the flags of a difference, each as a comparison

module _ (w : Width) (a b : ℕ) (la : a < limit w) (lb : b < limit w) where
  abbrev r : ℕ
  r = low w (a + (limit w - b))

  abbrev d : ℤ
  d = signed w a -ℤ signed w b

  zero_flag : eqb r 0 ≡ eqb a b
  zero_flag = difference_zero w a b la lb

  sign_flag : leb (half w) r ≡ int_lt (signed w (wrapped w d)) (pos 0)
  sign_flag = sign_is w r d (low_below w (a + (limit w - b))) (difference_bits w a b la lb)

  less_flags : differ (leb (half w) r) (not (is_signed w d)) ≡ int_lt (signed w a) (signed w b)
  less_flags = signed_less w a b la lb

  less_or_equal : (eqb r 0 || differ (leb (half w) r) (not (is_signed w d)))
      ≡ int_le (signed w a) (signed w b)
  less_or_equal =
      ap (λ (t : Bool). t || differ (leb (half w) r) (not (is_signed w d))) zero_flag
      ∙ ap (λ (t : Bool). eqb a b || t) less_flags
      ∙ equal_signed w a b la lb (signed w a) (signed w b) refl refl

not_not : (b : Bool) → not (not b) ≡ b
not_not true = refl
not_not false = refl

not_less_or_equal : (x y : ℤ) → not (int_le x y) ≡ int_lt y x
not_less_or_equal (pos a) (pos b) = not_below_or_equal a b
not_less_or_equal (pos a) (negsuc b) = refl
not_less_or_equal (negsuc a) (pos b) = refl
not_less_or_equal (negsuc a) (negsuc b) = not_below_or_equal b a

-- what each condition asks of the flags of a difference
pub difference_decides : (w : Width) (a b : ℕ) (c : Condition) → a < limit w → b < limit w
    → holds (subtracted w a b).1 c ≡ compares c w a b
unfolding subtracted
difference_decides w a b conditions.Overflow la lb = refl
difference_decides w a b conditions.NotOverflow la lb = not_not
    (is_signed w (signed w a -ℤ signed w b))
difference_decides w a b conditions.Below la lb = refl
difference_decides w a b conditions.AboveOrEqual la lb = not_below a b
difference_decides w a b conditions.Equal la lb = zero_flag w a b la lb
difference_decides w a b conditions.NotEqual la lb = ap not (zero_flag w a b la lb)
difference_decides w a b conditions.BelowOrEqual la lb = ap (λ (t : Bool). ltb a b || t)
    (zero_flag w a b la lb) ∙ below_or_equal a b
difference_decides w a b conditions.Above la lb = ap (λ (t : Bool). not (ltb a b || t))
    (zero_flag w a b la lb) ∙ ap not (below_or_equal a b) ∙ not_below_or_equal a b
difference_decides w a b conditions.Sign la lb = sign_flag w a b la lb
difference_decides w a b conditions.NotSign la lb = ap not (sign_flag w a b la lb)
    ∙ not_less (signed w (wrapped w (signed w a -ℤ signed w b))) (pos 0)
difference_decides w a b conditions.Less la lb = less_flags w a b la lb
difference_decides w a b conditions.GreaterOrEqual la lb = ap not (less_flags w a b la lb)
    ∙ not_less (signed w a) (signed w b)
difference_decides w a b conditions.LessOrEqual la lb = less_or_equal w a b la lb
difference_decides w a b conditions.Greater la lb = ap not (less_or_equal w a b la lb)
    ∙ not_less_or_equal (signed w a) (signed w b)
