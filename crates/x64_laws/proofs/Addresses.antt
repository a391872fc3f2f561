-- Addresses of operands in memory, and of jumps.
use Rattle.std.proofs.Common.{◌≡◌, ℕ, ◌+◌, ◌*◌, ◌%◌, ◌^◌, ◌<◌, ℤ, pos, ◌+ℤ◌, ◌-ℤ◌, refl, sym, ap, subst, ◌∙◌, arith, set}
use Rattle.std.proofs.lemmas.Int.{ints}
use Rattle.x64_instr.specs.declared.operand.Scale.{Scale}
use Rattle.x64_instr.specs.declared.operand.Scale.TheVariants as scales
use Rattle.x64_laws.specs.Words.{Width, W8, W16, W32, W64, limit, low, signed, wrapped, Reg, number, merged}
use Rattle.x64_machine.specs.Effect.{State, register, factor, address_of, with_rip}
use Rattle.x64_laws.specs.Destinations.{Puts}
use Rattle.x64_laws.specs.Addressing.{exponent, AddressesAreSums, LeaPutsAddress, RipIsOfNext, JmpGoesFromNext}
use Rattle.x64_laws.proofs.Lemmas.{low_below, signed_twice}
use Rattle.x64_laws.proofs.Numbers.{wrapped_from}
use Rattle.x64_laws.proofs.Results.{bits}
use Rattle.x64_laws.proofs.Effects.{puts}

from_sum : (n l m : ℕ) (z : ℤ) → z ≡ pos l -ℤ pos m → pos n +ℤ z ≡ pos (n + l) -ℤ pos m
from_sum n l m z e = omega (arith, ints)

-- a signed displacement added to a number
pub displaced_is : (n d : ℕ) → (n + d) % 2 ^ 64 ≡ wrapped W64 (pos n +ℤ signed W64 d)
displaced_is n d =
    let l = low W64 d in
    let x = bits W64 l (low_below W64 d) in
    let e : (n + d) % 2 ^ 64 ≡ (n + l) % 2 ^ 64 = omega arith in
    e ∙ sym (wrapped_from W64 (pos n +ℤ signed W64 d) (n + l) x.times
    (from_sum n l (limit W64 * x.times) (signed W64 d) (sym (signed_twice W64 d) ∙ x.is)))

-- the same of a number that is said in another way
displaced_by : (k n d : ℕ) → k ≡ n → (k + d) % 2 ^ 64 ≡ wrapped W64 (pos n +ℤ signed W64 d)
displaced_by k n d e = ap (λ (m : ℕ). (m + d) % 2 ^ 64) e ∙ displaced_is n d

scaled_is : (k : Scale) (x : ℕ) → factor k * x ≡ x * 2 ^ exponent k
scaled_is scales.One x = omega arith
scaled_is scales.Two x = omega arith
scaled_is scales.Four x = omega arith
scaled_is scales.Eight x = omega arith

pub addresses_are_sums : AddressesAreSums
addresses_are_sums = record {
  displacement = λ c d.
      let e : pos 0 +ℤ signed W64 d ≡ signed W64 d = omega (arith, ints) in
      displaced_by (0 + 0) 0 d (omega arith) ∙ ap (wrapped W64) e;
  base = λ c b d. displaced_by (register c b + 0) (register c b) d (omega arith);
  index = λ c x k d.
      let e = scaled_is k (register c x) in
      displaced_by (0 + factor k * register c x) (register c x * 2 ^ exponent k) d (omega arith);
  base_and_index = λ c b x k d.
      displaced_by (register c b + factor k * register c x)
      (register c b + register c x * 2 ^ exponent k) d
      (ap (λ (n : ℕ). register c b + n) (scaled_is k (register c x)));
  relative = λ c d. displaced_by (c.rip + 0) c.rip d (omega arith);
}

-- ---- LEA

merged_of_low : (w : Width) (old v : ℕ) → merged w old (low w v) ≡ merged w old v
merged_of_low W8 old v = omega arith
merged_of_low W16 old v = omega arith
merged_of_low W32 old v = omega arith
merged_of_low W64 old v = omega arith

abbrev with_whole : State → Reg → ℕ → State
with_whole s to n = record s {
  cpu = record {
    registers = set s.cpu.registers (number to) n;
    rip = s.cpu.rip;
    flags = s.cpu.flags;
  };
}

pub lea_puts_address : LeaPutsAddress
lea_puts_address s w to m h =
    let v = address_of s.cpu m in
    let P : ℕ → Type 0 = λ n. n ≡ low w v in
    subst (λ (n : ℕ). Puts s w to P s.cpu.flags (with_whole s to n))
    (merged_of_low w (register s.cpu to) v)
    (puts s w to (low w v) P s.cpu.flags s.cpu.flags h (low_below w v) refl refl)

-- ---- from the next instruction

pub next_is : (rip length d : ℕ)
    → ((rip + length) % 2 ^ 64 + d) % 2 ^ 64 ≡ wrapped W64 (pos (rip + length) +ℤ signed W64 d)
next_is rip length d =
    let n : ℕ = rip + length in
    let e : (n % 2 ^ 64 + d) % 2 ^ 64 ≡ (n + d) % 2 ^ 64 = omega arith in
    e ∙ displaced_is n d

pub rip_is_of_next : RipIsOfNext
rip_is_of_next s to d length h =
    let next = (s.cpu.rip + length) % 2 ^ 64 in
    let t = with_rip s next in
    let v : ℕ = (next + 0 + d) % 2 ^ 64 in
    let small : v < limit W64 = low_below W64 (next + 0 + d) in
    let z : next + 0 ≡ next = omega arith in
    (puts t W64 to v (λ n. n ≡ v) t.cpu.flags t.cpu.flags h small refl refl).result
    ∙ ap (λ (n : ℕ). (n + d) % 2 ^ 64) z ∙ next_is s.cpu.rip length d

pub jmp_goes_from_next : JmpGoesFromNext
jmp_goes_from_next s d length = next_is s.cpu.rip length d
