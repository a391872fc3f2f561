-- Digits one after another.
use Rattle.std.proofs.Common.{◌≡◌, ℕ, zero, suc, ◌+◌, ◌-◌, ◌*◌, ◌/◌, ◌%◌, ◌^◌, ◌≤◌, ◌<◌, true, List, [], ◌∷◌, ◌++◌, length, arith, refl, sym, ap, ◌∙◌, append_assoc, append-nil, add-one, length-append}
use Rattle.std.specs.Fmt.{decimal, digit_glyph}
use Rattle.std.proofs.lemmas.Nat.{shr-shr}
use Rattle.std.proofs.lemmas.Fmt.{decimal_step, decimal_digit, decimal_nonempty, length-decimal-le}
use Rattle.seh_io.specs.Text.{hexadecimal}

-- ---- base 10

pub decimal_fits : (n : ℕ) → n < 2 ^ 64 → length (decimal n) ≤ 20
decimal_fits n h = length-decimal-le 20 n (omega arith) (omega arith) h

pub decimal_half_fits : (n : ℕ) → n ≤ 2 ^ 63 → length (decimal n) ≤ 19
decimal_half_fits n h = length-decimal-le 19 n (omega arith) (omega arith) (omega arith)

pub length-decimal_step : (n : ℕ) → 10 ≤ n → n < 2 ^ 64
    → length (decimal n) ≡ length (decimal (n / 10)) + 1
length-decimal_step n h b = ap length (decimal_step n h b)
    ∙ length-append (decimal (n / 10)) ((48 + n % 10) ∷ [])

pub decimal_some : (n : ℕ) → n < 2 ^ 64 → 0 < length (decimal n)
decimal_some n b = decimal_nonempty n b

pub last_digit : (n : ℕ) (s front all : List ℕ) → 10 ≤ n → n < 2 ^ 64
    → front ≡ s ++ decimal (n / 10) → all ≡ front ++ (48 + n % 10) ∷ [] → all ≡ s ++ decimal n
last_digit n s front all h b p q =
    q ∙ ap (λ t. t ++ (48 + n % 10) ∷ []) p ∙ append_assoc s (decimal (n / 10)) ((48 + n % 10) ∷ [])
    ∙ ap (λ t. s ++ t) (sym (decimal_step n h b))

pub only_digit : (n : ℕ) (s all : List ℕ) → n < 10 → all ≡ s ++ (48 + n % 10) ∷ []
    → all ≡ s ++ decimal n
only_digit n s all h q =
    let e : n % 10 ≡ n = omega arith in
    q ∙ ap (λ k. s ++ (48 + k) ∷ []) e ∙ ap (λ t. s ++ t) (sym (decimal_digit n h))

-- ---- base 16

-- the digit at a place comes after those of the higher places
pub hexadecimal_step : (n k place : ℕ) → hexadecimal (suc k) (n / 2 ^ (4 * place))
    ≡ hexadecimal k (n / 2 ^ (4 * (place + 1))) ++ digit_glyph true (n / 2 ^ (4 * place) % 16) ∷ []
unfolding hexadecimal
hexadecimal_step n k place =
    let e : 4 * place + 4 ≡ 4 * (place + 1) = omega arith in
    ap (λ m. hexadecimal k m ++ digit_glyph true (n / 2 ^ (4 * place) % 16) ∷ [])
    (shr-shr n (4 * place) 4 ∙ ap (λ m. n / 2 ^ m) e)

pub length-hexadecimal : (k n : ℕ) → length (hexadecimal k n) ≡ k
unfolding hexadecimal
length-hexadecimal zero n = refl
length-hexadecimal (suc k) n = length-append (hexadecimal k (n / 16))
    (digit_glyph true (n % 16) ∷ []) ∙ ap (λ m. m + 1) (length-hexadecimal k (n / 16)) ∙ add-one k

pub hexadecimal_none : (n : ℕ) (s : List ℕ) → s ≡ s ++ hexadecimal 0 n
unfolding hexadecimal
hexadecimal_none n s = sym (append-nil s)

pub all_places : (s : List ℕ) (digits n : ℕ) → s
    ≡ s ++ hexadecimal (digits - digits) (n / 2 ^ (4 * digits))
all_places s digits n =
    let e : digits - digits ≡ 0 = omega arith in
    hexadecimal_none (n / 2 ^ (4 * digits)) s
    ∙ ap (λ k. s ++ hexadecimal k (n / 2 ^ (4 * digits))) (sym e)

pub next_place : (s front all : List ℕ) (digits n place : ℕ) → 0 < place → place ≤ digits
    → front ≡ s ++ hexadecimal (digits - place) (n / 2 ^ (4 * place))
    → all ≡ front ++ digit_glyph true (n / 2 ^ (4 * (place - 1)) % 16) ∷ []
    → all ≡ s ++ hexadecimal (digits - (place - 1)) (n / 2 ^ (4 * (place - 1)))
next_place s front all digits n place some within p q =
    let rest = hexadecimal (digits - place) (n / 2 ^ (4 * place)) in
    let digit = digit_glyph true (n / 2 ^ (4 * (place - 1)) % 16) ∷ [] in
    let e : place - 1 + 1 ≡ place = omega arith in
    let d : digits - (place - 1) ≡ suc (digits - place) = omega arith in
    q ∙ ap (λ t. t ++ digit) p ∙ append_assoc s rest digit
    ∙ ap (λ k. s ++ (hexadecimal (digits - place) (n / 2 ^ (4 * k)) ++ digit)) (sym e)
    ∙ ap (λ t. s ++ t) (sym (hexadecimal_step n (digits - place) (place - 1)))
    ∙ ap (λ k. s ++ hexadecimal k (n / 2 ^ (4 * (place - 1)))) (sym d)
