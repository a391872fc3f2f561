-- What a store does to the numbers in memory.
use Rattle.std.proofs.Common.{◌≡◌, ◌≢◌, ℕ, zero, suc, ◌+◌, ◌-◌, ◌*◌, ◌/◌, ◌%◌, ◌^◌, ◌<◌, ◌≤◌, Bool, true, false, cond, ltb, ◌&&◌, Option, Some, None, Ok, Err, refl, sym, ap, ◌∙◌, arith, inl, inr}
use Rattle.std.proofs.lemmas.Bool.{cases_lt, cases_eq, ne_eqb, eq-eqb, lt-ltb, le-ltb}
use Rattle.std.proofs.Math.Nat.{pow-suc, one-le-pow, div-div-eq-div-mul, mul_comm}
use Rattle.std.proofs.Math.Arith.{mod-mul}
use Rattle.seh_num.specs.declared.width.Width.{Width}
use Rattle.seh_num.specs.declared.width.Width.TheVariants.{W8, W16, W32, W64}
use Rattle.seh_num.specs.Widths.{bytes_of, limit}
use Rattle.flat_memory.specs.declared.access.RefusedAccess.{RefusedAccess}
use Rattle.flat_memory.specs.declared.protection.Rights.{Rights}
use Rattle.flat_memory.specs.declared.protection.Rights.TheVariants.{Nothing, Read, ReadWrite}
use Rattle.flat_memory.specs.Protections.{is_readable, is_writable}
use Rattle.flat_memory.specs.Memory.{Memory, next, distance, is_among, first_refused, may_read, may_write, access, unless_refused, number_at, with_number, with_byte}
use Rattle.flat_memory.specs.Laws.{IsApart, LoadsWhatWasStored, LeavesOthers, KeepsModes, RefusalsChangeNothing}

-- ---- one byte more

none_among : (at a : ℕ) → is_among 0 at a ≡ false
none_among at a = elim (cases_lt a (2 ^ 64)) [
  | inl lt ↦ rw (lt-ltb a (2 ^ 64) lt) (le-ltb (distance at a) 0 (omega arith))
  | inr ge ↦ rw (le-ltb a (2 ^ 64) ge) refl
]

pub with_number-zero : (byte : ℕ → ℕ) (n at v : ℕ) → n ≡ 0 → with_number byte n at v ≡ byte
unfolding with_number
with_number-zero byte zero at v e = λ i a. cond (none_among at a i) (v / 256 ^ distance at a % 256)
    (byte a)
with_number-zero byte (suc n) at v e = absurd (omega arith)

far : (at a : ℕ) → at < 2 ^ 64 → a < 2 ^ 64 → a ≢ at → distance at a ≡ distance (next at) a + 1
far at a lt la n = omega arith

around : (at : ℕ) → at < 2 ^ 64 → distance (next at) at ≡ 2 ^ 64 - 1
around at lt = omega arith

here : (at : ℕ) → at < 2 ^ 64 → distance at at ≡ 0
here at lt = omega arith

digit_later : (v d : ℕ) → v / 256 / 256 ^ d ≡ v / 256 ^ (d + 1)
digit_later v d = div-div-eq-div-mul v 256 (256 ^ d)
    ∙ ap (λ x. v / x) (mul_comm 256 (256 ^ d)
    ∙ sym (let e : d + 1 ≡ suc d = omega arith in ap (λ k. 256 ^ k) e ∙ pow-suc 256 d))

pub among : (byte : ℕ → ℕ) (n at v a : ℕ) → a < 2 ^ 64 → distance at a < n
    → with_number byte n at v a ≡ v / 256 ^ distance at a % 256
unfolding with_number
among byte n at v a la h = ap (λ b. cond (b && ltb (distance at a) n)
    (v / 256 ^ distance at a % 256) (byte a)) (lt-ltb a (2 ^ 64) la)
    ∙ ap (λ b. cond b (v / 256 ^ distance at a % 256) (byte a)) (lt-ltb (distance at a) n h)

pub outside : (byte : ℕ → ℕ) (n at v a : ℕ) → 2 ^ 64 ≤ a → with_number byte n at v a ≡ byte a
unfolding with_number
outside byte n at v a h = ap (λ b. cond (b && ltb (distance at a) n) (v / 256 ^ distance at a % 256)
    (byte a)) (le-ltb a (2 ^ 64) h)

pub beyond : (byte : ℕ → ℕ) (n at v a : ℕ) → a < 2 ^ 64 → n ≤ distance at a
    → with_number byte n at v a ≡ byte a
unfolding with_number
beyond byte n at v a la h = ap (λ b. cond (b && ltb (distance at a) n)
    (v / 256 ^ distance at a % 256) (byte a)) (lt-ltb a (2 ^ 64) la)
    ∙ ap (λ b. cond b (v / 256 ^ distance at a % 256) (byte a)) (le-ltb (distance at a) n h)

other : (byte : ℕ → ℕ) (at b a : ℕ) → a ≢ at → with_byte byte at b a ≡ byte a
other byte at b a n = ap (λ t. cond t b (byte a)) (ne_eqb a at n)

-- a byte that isn't the first
later : (byte : ℕ → ℕ) (m at v a : ℕ) → at < 2 ^ 64 → a < 2 ^ 64 → a ≢ at
    → with_number (with_byte byte at (v % 256)) m (next at) (v / 256) a
    ≡ with_number byte (m + 1) at v a
later byte m at v a lt la n = elim (cases_lt (distance (next at) a) m) [
  | inl h ↦ among (with_byte byte at (v % 256)) m (next at) (v / 256) a la h
      ∙ ap (λ x. x % 256) (digit_later v (distance (next at) a))
      ∙ ap (λ d. v / 256 ^ d % 256) (sym (far at a lt la n))
      ∙ sym (among byte (m + 1) at v a la (let f = far at a lt la n in omega arith))
  | inr h ↦ beyond (with_byte byte at (v % 256)) m (next at) (v / 256) a la h
      ∙ other byte at (v % 256) a n ∙ sym (beyond byte (m + 1) at v a la
      (let f = far at a lt la n in omega arith))
]

first : (byte : ℕ → ℕ) (m at v : ℕ) → at < 2 ^ 64 → m < 2 ^ 64
    → with_number (with_byte byte at (v % 256)) m (next at) (v / 256) at
    ≡ with_number byte (m + 1) at v at
first byte m at v lt small =
    beyond (with_byte byte at (v % 256)) m (next at) (v / 256) at lt
    (let f = around at lt in omega arith)
    ∙ ap (λ b. cond b (v % 256) (byte at)) (eq-eqb at at refl)
    ∙ (let one : v % 256 ≡ v / 256 ^ 0 % 256 = omega arith in one)
    ∙ sym (ap (λ d. v / 256 ^ d % 256) (here at lt))
    ∙ sym (among byte (m + 1) at v at lt (let f = here at lt in omega arith))

with_number-suc : (byte : ℕ → ℕ) (m at v a : ℕ) → at < 2 ^ 64 → m < 2 ^ 64
    → with_number (with_byte byte at (v % 256)) m (next at) (v / 256) a
    ≡ with_number byte (m + 1) at v a
with_number-suc byte m at v a lt small = elim (cases_lt a (2 ^ 64)) [
  | inl la ↦ elim (cases_eq a at) [
    | inl e ↦ ap (with_number (with_byte byte at (v % 256)) m (next at) (v / 256)) e
        ∙ first byte m at v lt small ∙ sym (ap (with_number byte (m + 1) at v) e)
    | inr n ↦ later byte m at v a lt la n
  ]
  | inr ge ↦ outside (with_byte byte at (v % 256)) m (next at) (v / 256) a ge
      ∙ other byte at (v % 256) a (λ e. absurd (omega arith)) ∙ sym (outside byte (m + 1) at v a ge)
]

-- a number is written byte by byte, the lowest first
pub with_number-more : (byte : ℕ → ℕ) (n m at v : ℕ) → n ≡ m + 1 → at < 2 ^ 64 → n ≤ 2 ^ 64
    → with_number (with_byte byte at (v % 256)) m (next at) (v / 256) ≡ with_number byte n at v
with_number-more byte n m at v e lt small = (λ i a. with_number-suc byte m at v a lt
    (let s : m < 2 ^ 64 = omega arith in s) i) ∙ ap (λ k. with_number byte k at v) (sym e)

-- ---- the laws

reached : (at a : ℕ) → at < 2 ^ 64 → a < 2 ^ 64 → a ≡ (at + distance at a) % 2 ^ 64
reached at a lt la = omega arith

pub untouched : (byte : ℕ → ℕ) (n at v a : ℕ) → IsApart a at n → at < 2 ^ 64
    → with_number byte n at v a ≡ byte a
untouched byte n at v a h lt = elim (cases_lt a (2 ^ 64)) [
  | inl la ↦ elim (cases_lt (distance at a) n) [
    | inl d ↦ absurd (h (distance at a) d (reached at a lt la))
    | inr d ↦ beyond byte n at v a la d
  ]
  | inr ge ↦ outside byte n at v a ge
]

digit : (n v : ℕ) → v % 256 + 256 * (v / 256 % 256 ^ n) ≡ v % 256 ^ suc n
digit n v =
    let p : 256 ^ suc n ≡ 256 ^ n * 256 = pow-suc 256 n in
    let pos : 0 < 256 ^ n = one-le-pow n 256 (omega arith) in
    let e : v % (256 ^ n * 256) ≡ (v / 256 % 256 ^ n) * 256
    + v % 256 = mod-mul v {m = 256 ^ n} {c = 256} pos (omega arith) in
    rw p (omega arith)

-- what is written is read again
pub stored_is_loaded : (byte : ℕ → ℕ) (n at v : ℕ) → n ≤ 8 → at < 2 ^ 64
    → number_at (with_number byte n at v) n at ≡ v % 256 ^ n
unfolding number_at
stored_is_loaded byte zero at v le lt = omega arith
stored_is_loaded byte (suc n) at v le lt =
    let whole = with_number-more byte (suc n) n at v (omega arith) lt (omega arith) in
    let apart : IsApart at (next at) n = λ i il e. absurd (omega arith) in
    let low' : with_number (with_byte byte at (v % 256)) n (next at) (v / 256) at
    ≡ v % 256 = untouched (with_byte byte at (v % 256)) n (next at) (v / 256) at apart
    (omega arith) ∙ ap (λ b. cond b (v % 256) (byte at)) (eq-eqb at at refl) in
    let high = stored_is_loaded (with_byte byte at (v % 256)) n (next at) (v / 256) (omega arith)
    (omega arith) in
    ap (λ f. f at + 256 * number_at f n (next at)) (sym whole)
    ∙ ap (λ x. x + 256 * number_at (with_number (with_byte byte at (v % 256)) n (next at)
    (v / 256)) n (next at)) low' ∙ ap (λ x. v % 256 + 256 * x) high ∙ digit n v

pub leaves_others : LeavesOthers
unfolding number_at
leaves_others byte n at v zero to at_lt lt h = refl
leaves_others byte n at v (suc m) to at_lt lt h =
    let here' : to ≡ (to + 0) % 2 ^ 64 = omega arith in
    let low' = ap (with_number byte n at v) here'
    ∙ untouched byte n at v ((to + 0) % 2 ^ 64) (h 0 (omega arith)) at_lt ∙ sym (ap byte here') in
    let rest : (i : ℕ) → i < m → IsApart ((next to + i) % 2 ^ 64) at n = λ i il j jl e. h (suc i)
    (omega arith) j jl (let f : (to + suc i) % 2 ^ 64 ≡ (next to + i) % 2 ^ 64 = omega arith in f
    ∙ e) in
    let high = leaves_others byte n at v m (next to) at_lt (omega arith) rest in
    ap (λ x. x + 256 * number_at (with_number byte n at v) m (next to)) low'
    ∙ ap (λ x. byte to + 256 * x) high

readable : (r : Rights) → is_writable r ≡ true → is_readable r ≡ true
readable Nothing e = absurd cc
readable Read e = absurd cc
readable ReadWrite e = refl

-- what may be written may be read
pub writable_is_readable : (m : Memory) (n at : ℕ) → first_refused (may_write m) n at ≡ None
    → first_refused (may_read m) n at ≡ None
unfolding first_refused
writable_is_readable m zero at e = refl
writable_is_readable m (suc n) at e = go (λ h. writable_is_readable m n (next at) h)
    (may_write m at) refl e
  where
    go : (first_refused (may_write m) n (next at) ≡ None
        → first_refused (may_read m) n (next at) ≡ None) → (b : Bool) → may_write m at ≡ b
        → cond b (first_refused (may_write m) n (next at)) (Some at) ≡ None
        → cond (may_read m at) (first_refused (may_read m) n (next at)) (Some at) ≡ None
    go more true w e = rw (readable (m.protection at).rights w) (more e)
    go more false w e = absurd cc

small : (w : Width) → bytes_of w ≤ 8
small W8 = omega arith
small W16 = omega arith
small W32 = omega arith
small W64 = omega arith

power : (w : Width) → 256 ^ bytes_of w ≡ limit w
power W8 = refl
power W16 = refl
power W32 = refl
power W64 = refl

none_refused : (o : Option ℕ) → access {A = Unit {0}} true o tt ≡ Ok tt → o ≡ None
none_refused None e = refl
none_refused (Some a) e = absurd cc

some_refused : (o : Option ℕ) (a : RefusedAccess) (new old : Memory)
    → access {A = Unit {0}} true o tt ≡ Err a → unless_refused o new old ≡ old
some_refused None a new old e = absurd cc
some_refused (Some b) a new old e = refl

pub loads_what_was_stored : LoadsWhatWasStored
loads_what_was_stored m at v w lt ok =
    let may = none_refused (first_refused (may_write m) (bytes_of w) at) ok in
    rw (may, writable_is_readable m (bytes_of w) at may)
    (ap Ok (stored_is_loaded m.byte (bytes_of w) at v (small w) lt ∙ ap (λ l. v % l) (power w)))

modes_kept : (o : Option ℕ) (m new : Memory) → new.protection ≡ m.protection
    → (unless_refused o new m).protection ≡ m.protection
modes_kept None m new e = e
modes_kept (Some a) m new e = refl

pub keeps_modes : KeepsModes
keeps_modes m at v w = modes_kept (first_refused (may_write m) (bytes_of w) at) m
    (record { protection = m.protection; byte = with_number m.byte (bytes_of w) at v }) refl

pub refusals_change_nothing : RefusalsChangeNothing
refusals_change_nothing m at v w a e = some_refused (first_refused (may_write m) (bytes_of w) at) a
    (record { protection = m.protection; byte = with_number m.byte (bytes_of w) at v }) m e
