-- What operations on bits leave.
use Rattle.std.proofs.Common.{◌≡◌, ℕ, ◌+◌, ◌-◌, ◌<◌, min, max, Bool, true, false, leb, ℤ, pos, refl, sym, ap, ◌∙◌, arith, inl, inr}
use Rattle.std.specs.Prelude.{int_lt, nat_eq, bit_and, bit_or, bit_xor}
use Rattle.std.specs.Int.Bits.{and_lt, xor_self}
use Rattle.std.proofs.lemmas.Nat.{or_lt, xor_lt}
use Rattle.std.proofs.lemmas.Nat.Bits.{bit_at_and, bit_at_or, bit_at_xor}
use Rattle.std.proofs.lemmas.Bool.{cases_lt, le-ltb, le-leb, lt-leb}
use Rattle.x64_laws.specs.Words.{Width, W8, W16, W32, W64, limit, half, signed, Reg, flags_of}
use Rattle.x64_laws.specs.Logic.{IsBitwise, exclusive, logical_flags, AndIsBitwise, OrIsBitwise, XorIsBitwise, XorClears, TestIsBitwise, NotIsComplement}
use Rattle.x64_laws.proofs.Lemmas.{low_below, signed_low, signed_high}
use Rattle.x64_machine.specs.declared.cpu.Flags.{Flags}
use Rattle.x64_machine.specs.Effect.{State, register}
use Rattle.x64_laws.specs.Destinations.{HasRegisters, unsigned_in, Puts}
use Rattle.x64_laws.proofs.Numbers.{half_positive, limit_positive}
use Rattle.x64_laws.proofs.Effects.{after, puts}

-- the top bit of a number of the width is set where its signed number is below 0
pub sign_below : (w : Width) (n : ℕ) → n < limit w → leb (half w) n ≡ int_lt (signed w n) (pos 0)
sign_below w n lt = elim (cases_lt n (half w)) [
  | inl l ↦ lt-leb (half w) n l
      ∙ sym (ap (λ (x : ℤ). int_lt x (pos 0)) (signed_low w n l) ∙ le-ltb n 0 (omega arith))
  | inr g ↦ le-leb (half w) n g
      ∙ sym (ap (λ (x : ℤ). int_lt x (pos 0)) (signed_high w n g lt))
]

abbrev flags_with : ℕ → Bool → Flags
flags_with n sign = record { carry = false; zero = nat_eq n 0; sign = sign; overflow = false }

logical_is : (w : Width) (n : ℕ) → n < limit w → flags_of w n false false ≡ logical_flags w n
logical_is w n lt = ap (flags_with n) (sign_below w n lt)

-- a register takes bits, and the flags are those of a logical operation
puts_bits : (s : State) (w : Width) (to : Reg) (n : ℕ) (P : ℕ → Type 0) → HasRegisters s
    → n < limit w → P n
    → (let t = after s w to n (flags_of w n false false) in
    Puts s w to P (logical_flags w (unsigned_in w t to)) t)
puts_bits s w to n P h lt is =
    let t = after s w to n (flags_of w n false false) in
    let there = (puts s w to n (λ m. m ≡ n) t.cpu.flags t.cpu.flags h lt refl refl).result in
    puts s w to n P (logical_flags w (unsigned_in w t to)) t.cpu.flags h lt is
    (logical_is w n lt ∙ ap (logical_flags w) (sym there))

and_below : (w : Width) (a b : ℕ) → a < limit w → b < limit w → bit_and a b < limit w
and_below W8 = and_lt 8
and_below W16 = and_lt 16
and_below W32 = and_lt 32
and_below W64 = and_lt 64

or_below : (w : Width) (a b : ℕ) → a < limit w → b < limit w → bit_or a b < limit w
or_below W8 = or_lt 8
or_below W16 = or_lt 16
or_below W32 = or_lt 32
or_below W64 = or_lt 64

xor_below : (w : Width) (a b : ℕ) → a < limit w → b < limit w → bit_xor a b < limit w
xor_below W8 = xor_lt 8
xor_below W16 = xor_lt 16
xor_below W32 = xor_lt 32
xor_below W64 = xor_lt 64

pub and_is_bitwise : AndIsBitwise
and_is_bitwise s w to from h =
    let a = unsigned_in w s to in
    let b = unsigned_in w s from in
    puts_bits s w to (bit_and a b) (IsBitwise min a b) h
    (and_below w a b (low_below w (register s.cpu to)) (low_below w (register s.cpu from)))
    (bit_at_and a b)

pub or_is_bitwise : OrIsBitwise
or_is_bitwise s w to from h =
    let a = unsigned_in w s to in
    let b = unsigned_in w s from in
    puts_bits s w to (bit_or a b) (IsBitwise max a b) h
    (or_below w a b (low_below w (register s.cpu to)) (low_below w (register s.cpu from)))
    (bit_at_or a b)

pub xor_is_bitwise : XorIsBitwise
xor_is_bitwise s w to from h =
    let a = unsigned_in w s to in
    let b = unsigned_in w s from in
    puts_bits s w to (bit_xor a b) (IsBitwise exclusive a b) h
    (xor_below w a b (low_below w (register s.cpu to)) (low_below w (register s.cpu from)))
    (bit_at_xor a b)

zero_flags : (w : Width) (n : ℕ) → n ≡ 0
    → (let f : Flags = record { carry = false; zero = true; sign = false; overflow = false } in
    flags_of w n false false ≡ f)
zero_flags w n e =
    ap (λ (m : ℕ). flags_of w m false false) e
    ∙ ap (flags_with 0) (lt-leb (half w) 0 (half_positive w))

pub xor_clears : XorClears
xor_clears s w to h =
    let a = unsigned_in w s to in
    let n = bit_xor a a in
    puts s w to n (λ m. m ≡ 0)
    (record { carry = false; zero = true; sign = false; overflow = false })
    (flags_of w n false false) h
    (xor_below w a a (low_below w (register s.cpu to)) (low_below w (register s.cpu to)))
    (xor_self a) (zero_flags w n (xor_self a))

pub test_is_bitwise : TestIsBitwise
test_is_bitwise s w first second =
    let a = unsigned_in w s first in
    let b = unsigned_in w s second in (
      bit_and a b,
      bit_at_and a b,
      record {
        flags = logical_is w (bit_and a b) (and_below w a b (low_below w (register s.cpu first))
            (low_below w (register s.cpu second)));
        registers = refl;
        rip = refl;
        memory = refl;
      },
    )

pub not_is_complement : NotIsComplement
not_is_complement s w to h =
    let a = unsigned_in w s to in
    let lt = low_below w (register s.cpu to) in
    let some = limit_positive w in
    puts s w to (limit w - 1 - a) (λ n. a + n ≡ limit w - 1) s.cpu.flags s.cpu.flags h (omega arith)
    (omega arith) refl
