-- The instructions of an operation without faults leave its result in RAX.
use Rattle.std.proofs.Common.{◌≡◌, ℕ, ◌+◌, ◌-◌, ◌*◌, ◌/◌, ◌%◌, ◌^◌, ◌<◌, Bool, true, false, cond, ltb, [], ◌∷◌, Ok, ℤ, pos, negsuc, ◌-ℤ◌, refl, sym, ap, subst, ◌∙◌, arith}
use Rattle.std.specs.Prelude.{bit_and, bit_or, bit_xor}
use Rattle.std.specs.Int.Bits.{and_lt}
use Rattle.std.proofs.Math.Nat.{div-le_self}
use Rattle.std.proofs.lemmas.Int.{ints}
use Rattle.std.proofs.lemmas.Nat.{or_lt, xor_lt}
use Rattle.x64_templates.specs.Words.{Width, W8, W16, W32, W64, limit, half, low, signed, wrapped, Instr, Flags, added, subtracted, multiplied, effect, Size, Int, Long, Signedness, Unsigned, Signed, Pure, MachineView, machine, Executes, Yields, Rcx, set, pure_code, shifted_right, result_of}
use Rattle.c_operations.specs.declared.operation.Pure.TheVariants as pures
use Rattle.x64_templates.proofs.Straight.{executes_one, executes_nothing, executes_then}
use Rattle.x64_templates.proofs.Compares.{compares}

abbrev pub with_rax : MachineView → ℕ → MachineView
with_rax v x = record v { rax = x }

-- an instruction that puts y into RAX, which is x
pub gives : (i : Instr) (v : MachineView) (y x : ℕ) → y ≡ x
    → ((rip : ℕ) (f : Flags) → (g : Flags) × (effect (machine v rip f) i
    ≡ Ok (machine (with_rax v y) rip g))) → Yields (i ∷ []) v x v.memory
gives i v y x e h = record {
  rcx = v.rcx;
  rdx = v.rdx;
  does = executes_one i v (with_rax v x) (λ rip f. let r = h rip f in
      (r.0, r.1 ∙ ap (λ (z : ℕ). Ok (machine (with_rax v z) rip r.0)) e));
}

abbrev Pured : Pure → MachineView → Type 0
Pured p v = Yields (pure_code p) v (result_of p v.rax v.rcx) v.memory

constant : (n : ℕ) (v : MachineView) → Pured (pures.Constant n) v
constant n v = gives _ v (low W64 (low W64 (low W64 n))) (low W64 n) (omega arith)
    (λ rip f. (f, refl))

first : (v : MachineView) → Pured pures.First v
first v = record { rcx = v.rcx; rdx = v.rdx; does = executes_nothing v }

inverts : (z : Size) (v : MachineView) → Pured (pures.Not z) v
inverts Int v = gives _ v (low W32 (limit W32 - 1 - low W32 v.rax)) (limit W32 - 1 - low W32 v.rax)
    (omega arith) (λ rip f. (f, refl))
inverts Long v = gives _ v (low W64 (limit W64 - 1 - low W64 v.rax)) (limit W64 - 1 - low W64 v.rax)
    (omega arith) (λ rip f. (f, refl))

negates : (z : Size) (v : MachineView) → Pured (pures.Negate z) v
unfolding subtracted
negates Int v = gives _ v (low W32 (low W32 (0 + (limit W32 - low W32 v.rax))))
    (low W32 (limit W32 - low W32 v.rax)) (omega arith) (λ rip f. (_, refl))
negates Long v = gives _ v (low W64 (low W64 (0 + (limit W64 - low W64 v.rax))))
    (low W64 (limit W64 - low W64 v.rax)) (omega arith) (λ rip f. (_, refl))

adds : (z : Size) (v : MachineView) → Pured (pures.Add z) v
unfolding added
adds Int v = gives _ v (low W32 (low W32 (low W32 v.rax + low W32 v.rcx))) (low W32 (v.rax + v.rcx))
    (omega arith) (λ rip f. (_, refl))
adds Long v = gives _ v (low W64 (low W64 (low W64 v.rax + low W64 v.rcx)))
    (low W64 (v.rax + v.rcx)) (omega arith) (λ rip f. (_, refl))

subtracts : (z : Size) (v : MachineView) → Pured (pures.Subtract z) v
unfolding subtracted
subtracts Int v = gives _ v (low W32 (low W32 (low W32 v.rax + (limit W32 - low W32 v.rcx))))
    (low W32 (v.rax + (limit W32 - low W32 v.rcx))) (omega arith) (λ rip f. (_, refl))
subtracts Long v = gives _ v (low W64 (low W64 (low W64 v.rax + (limit W64 - low W64 v.rcx))))
    (low W64 (v.rax + (limit W64 - low W64 v.rcx))) (omega arith) (λ rip f. (_, refl))

twice_low : (w : Width) (x : ℕ) → low w (low w x) ≡ low w x
twice_low W8 x = omega arith
twice_low W16 x = omega arith
twice_low W32 x = omega arith
twice_low W64 x = omega arith

multiplies : (z : Size) (v : MachineView) → Pured (pures.Multiply z) v
unfolding multiplied
multiplies Int v = gives _ v (low W32 (low W32 (low W32 v.rax * low W32 v.rcx)))
    (low W32 (low W32 v.rax * low W32 v.rcx)) (twice_low W32 (low W32 v.rax * low W32 v.rcx))
    (λ rip f. (_, refl))
multiplies Long v = gives _ v (low W64 (low W64 (low W64 v.rax * low W64 v.rcx)))
    (low W64 (low W64 v.rax * low W64 v.rcx)) (twice_low W64 (low W64 v.rax * low W64 v.rcx))
    (λ rip f. (_, refl))

-- a number put into RCX
pub sets_rcx : (n : ℕ) (v : MachineView) → Executes (set Rcx n ∷ []) v
    (record v { rcx = low W64 n })
sets_rcx n v = executes_one (set Rcx n) v (record v { rcx = low W64 n }) (λ rip f. (
  f,
  ap (λ (x : ℕ). Ok (machine (record v { rcx = x }) rip f))
      (let e : low W64 (low W64 (low W64 n)) ≡ low W64 n = omega arith in e),
))

multiplies_by : (n : ℕ) (v : MachineView) → Pured (pures.MultiplyBy n) v
unfolding multiplies gives
multiplies_by n v =
    let w : MachineView = record v { rcx = low W64 n } in
    let p = multiplies Long w in
    let e : low W64 (low W64 v.rax * low W64 (low W64 n))
    ≡ low W64 (low W64 v.rax * low W64 n) =
    ap (λ (x : ℕ). low W64 (low W64 v.rax * x)) (twice_low W64 n) in
    record {
      rcx = low W64 n;
      rdx = v.rdx;
      does = executes_then (set Rcx n ∷ []) (pure_code (pures.Multiply Long)) v w
          (with_rax w (low W64 (low W64 v.rax * low W64 n))) (sets_rcx n v)
          (subst (λ (x : ℕ). Executes (pure_code (pures.Multiply Long)) w (with_rax w x)) e
          p.does);
    }

kept_low : (k x : ℕ) (w : Width) → limit w ≡ 2 ^ k → x < 2 ^ k → low w x ≡ x
kept_low k x W8 e lt = omega arith
kept_low k x W16 e lt = omega arith
kept_low k x W32 e lt = omega arith
kept_low k x W64 e lt = omega arith

ands : (z : Size) (v : MachineView) → Pured (pures.And z) v
ands Int v = let x = bit_and (low W32 v.rax) (low W32 v.rcx) in
    gives _ v (low W32 x) x (kept_low 32 x W32 refl
    (and_lt 32 (low W32 v.rax) (low W32 v.rcx) (omega arith) (omega arith))) (λ rip f. (_, refl))
ands Long v = let x = bit_and (low W64 v.rax) (low W64 v.rcx) in
    gives _ v (low W64 x) x (kept_low 64 x W64 refl
    (and_lt 64 (low W64 v.rax) (low W64 v.rcx) (omega arith) (omega arith))) (λ rip f. (_, refl))

ors : (z : Size) (v : MachineView) → Pured (pures.Or z) v
ors Int v = let x = bit_or (low W32 v.rax) (low W32 v.rcx) in
    gives _ v (low W32 x) x (kept_low 32 x W32 refl
    (or_lt 32 (low W32 v.rax) (low W32 v.rcx) (omega arith) (omega arith))) (λ rip f. (_, refl))
ors Long v = let x = bit_or (low W64 v.rax) (low W64 v.rcx) in
    gives _ v (low W64 x) x (kept_low 64 x W64 refl
    (or_lt 64 (low W64 v.rax) (low W64 v.rcx) (omega arith) (omega arith))) (λ rip f. (_, refl))

xors : (z : Size) (v : MachineView) → Pured (pures.Xor z) v
xors Int v = let x = bit_xor (low W32 v.rax) (low W32 v.rcx) in
    gives _ v (low W32 x) x (kept_low 32 x W32 refl
    (xor_lt 32 (low W32 v.rax) (low W32 v.rcx) (omega arith) (omega arith))) (λ rip f. (_, refl))
xors Long v = let x = bit_xor (low W64 v.rax) (low W64 v.rcx) in
    gives _ v (low W64 x) x (kept_low 64 x W64 refl
    (xor_lt 64 (low W64 v.rax) (low W64 v.rcx) (omega arith) (omega arith))) (λ rip f. (_, refl))

-- ---- shifts

int_count : (b : ℕ) → low W8 b % 32 ≡ b % 32
int_count b = omega arith

long_count : (b : ℕ) → low W8 b % 64 ≡ b % 64
long_count b = omega arith

lefts : (z : Size) (v : MachineView) → Pured (pures.ShiftLeft z) v
lefts Int v = gives _ v (low W32 (low W32 (low W32 v.rax * 2 ^ (low W8 v.rcx % 32))))
    (low W32 (low W32 v.rax * 2 ^ (v.rcx % 32)))
    (twice_low W32 (low W32 v.rax * 2 ^ (low W8 v.rcx % 32))
    ∙ ap (λ (c : ℕ). low W32 (low W32 v.rax * 2 ^ c)) (int_count v.rcx)) (λ rip f. (_, refl))
lefts Long v = gives _ v (low W64 (low W64 (low W64 v.rax * 2 ^ (low W8 v.rcx % 64))))
    (low W64 (low W64 v.rax * 2 ^ (v.rcx % 64)))
    (twice_low W64 (low W64 v.rax * 2 ^ (low W8 v.rcx % 64))
    ∙ ap (λ (c : ℕ). low W64 (low W64 v.rax * 2 ^ c)) (long_count v.rcx)) (λ rip f. (_, refl))

low_quotient : (k : ℕ) (w : Width) (a p : ℕ) → limit w ≡ 2 ^ k → a < 2 ^ k → low w (a / p) ≡ a / p
low_quotient k w a p e lt = let d = div-le_self a p in kept_low k (a / p) w e (omega arith)

low_arithmetic : (k : ℕ) (w : Width) (a p more : ℕ) (b : Bool) → limit w ≡ 2 ^ k → a < 2 ^ k
    → low w (cond b (a / p) (low w (a / p + more))) ≡ cond b (a / p) (low w (a / p + more))
low_arithmetic k w a p more true e lt = low_quotient k w a p e lt
low_arithmetic k w a p more false e lt = twice_low w (a / p + more)

rights : (s : Signedness) (z : Size) (v : MachineView) → Pured (pures.ShiftRight s z) v
rights Unsigned Int v =
    let r = λ (c : ℕ). shifted_right Unsigned W32 (low W32 v.rax) c in
    gives _ v (low W32 (r (low W8 v.rcx % 32))) (r (v.rcx % 32))
    (low_quotient 32 W32 (low W32 v.rax) (2 ^ (low W8 v.rcx % 32)) refl (omega arith)
    ∙ ap r (int_count v.rcx)) (λ rip f. (_, refl))
rights Unsigned Long v =
    let r = λ (c : ℕ). shifted_right Unsigned W64 (low W64 v.rax) c in
    gives _ v (low W64 (r (low W8 v.rcx % 64))) (r (v.rcx % 64))
    (low_quotient 64 W64 (low W64 v.rax) (2 ^ (low W8 v.rcx % 64)) refl (omega arith)
    ∙ ap r (long_count v.rcx)) (λ rip f. (_, refl))
rights Signed Int v =
    let a = low W32 v.rax in
    let r = λ (c : ℕ). shifted_right Signed W32 a c in
    let c = low W8 v.rcx % 32 in
    gives _ v (low W32 (r c)) (r (v.rcx % 32))
    (low_arithmetic 32 W32 a (2 ^ c) (limit W32 - limit W32 / 2 ^ c) (ltb a (half W32)) refl
    (omega arith) ∙ ap r (int_count v.rcx)) (λ rip f. (_, refl))
rights Signed Long v =
    let a = low W64 v.rax in
    let r = λ (c : ℕ). shifted_right Signed W64 a c in
    let c = low W8 v.rcx % 64 in
    gives _ v (low W64 (r c)) (r (v.rcx % 64))
    (low_arithmetic 64 W64 a (2 ^ c) (limit W64 - limit W64 / 2 ^ c) (ltb a (half W64)) refl
    (omega arith) ∙ ap r (long_count v.rcx)) (λ rip f. (_, refl))

-- ---- extensions

wrapped_low : (w : Width) (z : ℤ) → low w (wrapped w z) ≡ wrapped w z
wrapped_low W8 (pos n) = twice_low W8 n
wrapped_low W8 (negsuc n) = omega arith
wrapped_low W16 (pos n) = twice_low W16 n
wrapped_low W16 (negsuc n) = omega arith
wrapped_low W32 (pos n) = twice_low W32 n
wrapped_low W32 (negsuc n) = omega arith
wrapped_low W64 (pos n) = twice_low W64 n
wrapped_low W64 (negsuc n) = omega arith

signed_of_low : (w : Width) (a : ℕ) → signed w (low w a) ≡ signed w a
signed_of_low w a = ap (λ (x : ℕ). cond (ltb x (half w)) (pos x) (pos x -ℤ pos (limit w)))
    (twice_low w a)

-- a number that is extended with its sign
signed_extension : (n w : Width) (a : ℕ) → low w (wrapped w (signed n (low n a)))
    ≡ wrapped w (signed n a)
signed_extension n w a = wrapped_low w (signed n (low n a)) ∙ ap (wrapped w) (signed_of_low n a)

-- the sign of bits, and what is made of them at a width
signed_is : (w : Width) (a : ℕ) (b : Bool) → ltb (low w a) (half w) ≡ b
    → signed w a ≡ cond b (pos (low w a)) (negsuc (limit w - 1 - low w a))
signed_is w a true e = ap (λ (t : Bool). cond t (pos (low w a)) (pos (low w a) -ℤ pos (limit w))) e
signed_is w a false e = ap (λ (t : Bool). cond t (pos (low w a)) (pos (low w a) -ℤ pos (limit w))) e
    ∙ below_limit w
  where
    below_limit : (w : Width) → pos (low w a) -ℤ pos (limit w) ≡ negsuc (limit w - 1 - low w a)
    below_limit W8 = omega (arith, ints)
    below_limit W16 = omega (arith, ints)
    below_limit W32 = omega (arith, ints)
    below_limit W64 = omega (arith, ints)

-- bits that are cut to as many or fewer are the same whatever sign they have
cut_int : (a : ℕ) (b : Bool) → wrapped W32 (cond b (pos (low W32 a))
    (negsuc (limit W32 - 1 - low W32 a))) ≡ low W32 a
cut_int a true = omega arith
cut_int a false = omega arith

cut_long : (a : ℕ) (b : Bool) → wrapped W64 (cond b (pos (low W64 a))
    (negsuc (limit W64 - 1 - low W64 a))) ≡ low W64 a
cut_long a true = omega arith
cut_long a false = omega arith

cut_half : (a : ℕ) (b : Bool) → wrapped W32 (cond b (pos (low W64 a))
    (negsuc (limit W64 - 1 - low W64 a))) ≡ low W32 a
cut_half a true = omega arith
cut_half a false = omega arith

extends : (s : Signedness) (n : Width) (z : Size) (v : MachineView) → Pured (pures.Extend s n z) v
extends Unsigned W8 Int v = gives _ v (low W32 (low W8 (low W8 v.rax))) (low W32 (low W8 v.rax))
    (omega arith) (λ rip f. (_, refl))
extends Unsigned W8 Long v = gives _ v (low W32 (low W8 (low W8 v.rax))) (low W64 (low W8 v.rax))
    (omega arith) (λ rip f. (_, refl))
extends Unsigned W16 Int v = gives _ v (low W32 (low W16 (low W16 v.rax))) (low W32 (low W16 v.rax))
    (omega arith) (λ rip f. (_, refl))
extends Unsigned W16 Long v = gives _ v (low W32 (low W16 (low W16 v.rax)))
    (low W64 (low W16 v.rax)) (omega arith) (λ rip f. (_, refl))
extends Unsigned W32 Int v = gives _ v (low W32 (low W32 v.rax)) (low W32 (low W32 v.rax)) refl
    (λ rip f. (_, refl))
extends Unsigned W32 Long v = gives _ v (low W32 (low W32 v.rax)) (low W64 (low W32 v.rax))
    (omega arith) (λ rip f. (_, refl))
extends Unsigned W64 Int v = gives _ v (low W32 (low W32 v.rax)) (low W32 (low W64 v.rax))
    (omega arith) (λ rip f. (_, refl))
extends Unsigned W64 Long v = gives _ v (low W64 (low W64 v.rax)) (low W64 (low W64 v.rax)) refl
    (λ rip f. (_, refl))
extends Signed W8 Int v = gives _ v (low W32 (wrapped W32 (signed W8 (low W8 v.rax))))
    (wrapped W32 (signed W8 v.rax)) (signed_extension W8 W32 v.rax) (λ rip f. (_, refl))
extends Signed W8 Long v = gives _ v (low W64 (wrapped W64 (signed W8 (low W8 v.rax))))
    (wrapped W64 (signed W8 v.rax)) (signed_extension W8 W64 v.rax) (λ rip f. (_, refl))
extends Signed W16 Int v = gives _ v (low W32 (wrapped W32 (signed W16 (low W16 v.rax))))
    (wrapped W32 (signed W16 v.rax)) (signed_extension W16 W32 v.rax) (λ rip f. (_, refl))
extends Signed W16 Long v = gives _ v (low W64 (wrapped W64 (signed W16 (low W16 v.rax))))
    (wrapped W64 (signed W16 v.rax)) (signed_extension W16 W64 v.rax) (λ rip f. (_, refl))
extends Signed W32 Long v = gives _ v (low W64 (wrapped W64 (signed W32 (low W32 v.rax))))
    (wrapped W64 (signed W32 v.rax)) (signed_extension W32 W64 v.rax) (λ rip f. (_, refl))
extends Signed W32 Int v = gives _ v (low W32 (low W32 v.rax)) (wrapped W32 (signed W32 v.rax))
    (twice_low W32 v.rax ∙ sym (ap (wrapped W32)
    (signed_is W32 v.rax (ltb (low W32 v.rax) (half W32)) refl)
    ∙ cut_int v.rax (ltb (low W32 v.rax) (half W32)))) (λ rip f. (_, refl))
extends Signed W64 Int v = gives _ v (low W32 (low W32 v.rax)) (wrapped W32 (signed W64 v.rax))
    (twice_low W32 v.rax ∙ sym (ap (wrapped W32)
    (signed_is W64 v.rax (ltb (low W64 v.rax) (half W64)) refl)
    ∙ cut_half v.rax (ltb (low W64 v.rax) (half W64)))) (λ rip f. (_, refl))
extends Signed W64 Long v = gives _ v (low W64 (low W64 v.rax)) (wrapped W64 (signed W64 v.rax))
    (twice_low W64 v.rax ∙ sym (ap (wrapped W64)
    (signed_is W64 v.rax (ltb (low W64 v.rax) (half W64)) refl)
    ∙ cut_long v.rax (ltb (low W64 v.rax) (half W64)))) (λ rip f. (_, refl))

-- ---- all of them

pub pure_gives : (p : Pure) (v : MachineView)
    → Yields (pure_code p) v (result_of p v.rax v.rcx) v.memory
pure_gives (pures.Constant n) v = constant n v
pure_gives pures.First v = first v
pure_gives (pures.Extend s n z) v = extends s n z v
pure_gives (pures.Not z) v = inverts z v
pure_gives (pures.Negate z) v = negates z v
pure_gives (pures.Add z) v = adds z v
pure_gives (pures.Subtract z) v = subtracts z v
pure_gives (pures.Multiply z) v = multiplies z v
pure_gives (pures.MultiplyBy n) v = multiplies_by n v
pure_gives (pures.And z) v = ands z v
pure_gives (pures.Or z) v = ors z v
pure_gives (pures.Xor z) v = xors z v
pure_gives (pures.ShiftLeft z) v = lefts z v
pure_gives (pures.ShiftRight s z) v = rights s z v
pure_gives (pures.Compare r s z) v = compares r s z v
