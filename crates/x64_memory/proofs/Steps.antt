-- One byte more of an access.
use Rattle.std.proofs.Common.{Result, Ok, Err, not, ◌≡◌, ℕ, zero, suc, ◌+◌, ◌-◌, ◌*◌, ◌^◌, ◌<◌, ◌≤◌, Bool, true, false, cond, Option, Some, None, refl, sym, ap, ◌∙◌, arith, []}
use Rattle.std.proofs.Math.Nat.{pow-suc, pow-le-pow_right}
use Rattle.x64_memory.specs.Words.{Memory, next, executable, first_refused, number_at, may_read, readable_byte, or_number, number_or_refused}

pub first_refused-more : (may : ℕ → Bool) (n m at : ℕ) → n ≡ m + 1 → may at ≡ true
    → first_refused may m (next at) ≡ first_refused may n at
unfolding first_refused
first_refused-more may zero m at e t = absurd (omega arith)
first_refused-more may (suc n) m at e t = let h : n ≡ m = omega arith in rw (t, h) refl

pub first_refused-here : (may : ℕ → Bool) (n at : ℕ) → 0 < n → may at ≡ false
    → first_refused may n at ≡ Some at
unfolding first_refused
first_refused-here may zero at lt t = absurd (omega arith)
first_refused-here may (suc n) at lt t = rw t refl

pub first_refused-zero : (may : ℕ → Bool) (n at : ℕ) → n ≡ 0 → first_refused may n at ≡ None
unfolding first_refused
first_refused-zero may zero at e = refl
first_refused-zero may (suc n) at e = absurd (omega arith)

-- where nothing is refused, the first byte may be accessed
pub may_first : (may : ℕ → Bool) (n at : ℕ) → 0 < n → first_refused may n at ≡ None → may at ≡ true
unfolding first_refused
may_first may zero at lt e = absurd (omega arith)
may_first may (suc n) at lt e = from (may at) e
  where
    from : (b : Bool) → cond b (first_refused may n (next at)) (Some at) ≡ None → b ≡ true
    from true e = refl
    from false e = absurd cc

pub number_at-more : (byte : ℕ → ℕ) (n at : ℕ) → 0 < n
    → number_at byte n at ≡ byte at + 256 * number_at byte (n - 1) (next at)
unfolding number_at
number_at-more byte zero at lt = absurd (omega arith)
number_at-more byte (suc n) at lt = let h : suc n - 1 ≡ n = omega arith in rw h refl

-- a digit before n - 1 others
pub digit_more : (n b v : ℕ) → 0 < n → b < 256 → v < 256 ^ (n - 1) → b + 256 * v < 256 ^ n
digit_more zero b v lt small h = absurd (omega arith)
digit_more (suc n) b v lt small h =
    let e : suc n - 1 ≡ n = omega arith in
    let h' : v < 256 ^ n = rw e at h in
    let p : 256 ^ suc n ≡ 256 ^ n * 256 = pow-suc 256 n in
    omega arith

pub pow_at_most : (n : ℕ) → n ≤ 8 → 256 ^ n ≤ 2 ^ 64
pow_at_most n h = pow-le-pow_right {n = 256} (omega arith) {i = n} {j = 8} h

pub ruleset refused_steps = (first_refused-here, first_refused-zero)

pub not_false : (b : Bool) → not b ≡ false → b ≡ true
not_false true e = refl
not_false false e = absurd cc

pub not_true : (b : Bool) → not b ≡ true → b ≡ false
not_true true e = absurd cc
not_true false e = refl

pub executable-none : (m : Memory) (n at : ℕ) → (m.protection at).execute ≡ false
    → executable m n at ≡ []
unfolding executable
executable-none m zero at t = refl
executable-none m (suc n) at t = rw t refl

pub executable-zero : (m : Memory) (n at : ℕ) → n ≡ 0 → executable m n at ≡ []
unfolding executable
executable-zero m zero at e = refl
executable-zero m (suc n) at e = absurd (omega arith)

-- ---- a number, byte by byte

pub refused_number-zero : (m : Memory) (n at : ℕ) → n ≡ 0 → Ok 0 ≡ number_or_refused m n at
unfolding first_refused number_at
refused_number-zero m zero at e = refl
refused_number-zero m (suc n) at e = absurd (omega arith)

first_bad : (m : Memory) (n at : ℕ) (b : Bool) → may_read m at ≡ b
    → None ≡ cond b (Some (m.byte at)) None → may_read m at ≡ false
first_bad m n at true e h = absurd cc
first_bad m n at false e h = e

pub refused_number-here : (m : Memory) (n at : ℕ) → 0 < n → None ≡ readable_byte m at
    → Err at ≡ number_or_refused m n at
refused_number-here m n at lt h = sym (ap (λ o. or_number o (number_at m.byte n at))
    (first_refused-here (may_read m) n at lt (first_bad m n at (may_read m at) refl h)))

good : (m : Memory) (at low : ℕ) (b : Bool) → may_read m at ≡ b
    → Some low ≡ cond b (Some (m.byte at)) None → (may_read m at ≡ true) × (low ≡ m.byte at)
good m at low true e h = (e, cc)
good m at low false e h = absurd cc

carried : (o : Option ℕ) (v low : ℕ) (r : Result ℕ ℕ) → r ≡ or_number o v → (a : ℕ) → r ≡ Err a
    → (w : ℕ) → Err a ≡ or_number o w
carried None v low r e a f w = absurd cc
carried (Some b) v low r e a f w = sym f ∙ e

pub refused_number-later : (m : Memory) (n k at low a : ℕ) → n ≡ k + 1
    → Some low ≡ readable_byte m at → Err a ≡ number_or_refused m k (next at)
    → Err a ≡ number_or_refused m n at
refused_number-later m n k at low a e h f =
    let g = good m at low (may_read m at) refl h in
    carried (first_refused (may_read m) k (next at)) (number_at m.byte k (next at)) low (Err a) f a
    refl (number_at m.byte n at) ∙ ap (λ o. or_number o (number_at m.byte n at))
    (first_refused-more (may_read m) n k at e g.0)

whole : (o : Option ℕ) (v high w : ℕ) → Ok high ≡ or_number o v → w ≡ w → (o ≡ None) × (high ≡ v)
whole None v high w e r = (refl, cc)
whole (Some b) v high w e r = absurd cc

pub refused_number-more : (m : Memory) (n k at low high : ℕ) → n ≡ k + 1
    → Some low ≡ readable_byte m at → Ok high ≡ number_or_refused m k (next at)
    → Ok (low + 256 * high) ≡ number_or_refused m n at
refused_number-more m n k at low high e h f =
    let g = good m at low (may_read m at) refl h in
    let w = whole (first_refused (may_read m) k (next at)) (number_at m.byte k (next at)) high 0 f
    refl in
    let none : first_refused (may_read m) n at
    ≡ None = sym (first_refused-more (may_read m) n k at e g.0) ∙ w.0 in
    let less : n - 1 ≡ k = omega arith in
    let more : number_at m.byte n at ≡ m.byte at
    + 256 * number_at m.byte k (next at) = number_at-more m.byte n at (omega arith)
    ∙ ap (λ j. m.byte at + 256 * number_at m.byte j (next at)) less in
    ap Ok (ap (λ b. b + 256 * high) g.1 ∙ ap (λ v. m.byte at + 256 * v) w.1 ∙ sym more)
    ∙ sym (ap (λ o. or_number o (number_at m.byte n at)) none)
