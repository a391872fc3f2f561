-- Divisions, which can fault.
use Rattle.std.proofs.Common.{◌≡◌, ℕ, ◌+◌, ◌-◌, ◌*◌, ◌/◌, ◌%◌, ◌^◌, ◌<◌, ◌≤◌, Bool, true, false, cond, ltb, eqb, [], ◌∷◌, Ok, Err, ℤ, pos, negsuc, ◌-ℤ◌, refl, sym, ap, ◌∙◌, arith, inl, inr}
use Rattle.std.specs.Prelude.{Result}
use Rattle.std.proofs.Math.Nat.{div-le_self, mod-le}
use Rattle.std.proofs.lemmas.Bool.{cases_lt, lt-ltb, le-ltb}
use Rattle.std.proofs.lemmas.Int.{ints}
use Rattle.x64_templates.specs.Words.{Width, W8, W16, W32, W64, DivFault, limit, half, low, signed, wrapped, Memory, Rax, Rcx, Rdx, Instr, Flags, joined, with_quotient, effect, Size, Int, Long, Signedness, Unsigned, Signed, width, MachineView, machine, Executes, Agrees, move, high_half, LeavesResult, Implements, signed_double, wrapped_both, signed_part, unsigned_part, quotient, remainder, division, high_of}
use Rattle.seh_num.specs.declared.division.DivFault.TheVariants as faults
use Rattle.seh_num.specs.Division.{divided_signed, divided_unsigned}
use Rattle.x64_instr.specs.declared.operand.RegisterOrMemory.TheVariants as places
use Rattle.x64_instr.specs.declared.instruction.Instr.TheVariants as instrs
use Rattle.x64_templates.proofs.Straight.{executes_one, executes_then}
use Rattle.x64_templates.proofs.Lemmas.{of_size, low_is, low_below, twice, signed_low, signed_high, signed_twice, wrapped_below}

-- ---- the numbers

joined_is : (w : Width) (x h : ℕ) → h ≡ 0 → joined w h x ≡ x
joined_is w x h e = ap (λ (y : ℕ). y * limit w + x) e
    ∙ (let z : 0 * limit w + x ≡ x = omega arith in z)

below_double : (w : Width) (a : ℕ) → a < half w → a < limit w * half w
below_double W8 a lt = omega arith
below_double W16 a lt = omega arith
below_double W32 a lt = omega arith
below_double W64 a lt = omega arith

above_double : (w : Width) (a : ℕ) → half w ≤ a → limit w * half w ≤ (limit w - 1) * limit w + a
above_double W8 a le = omega arith
above_double W16 a le = omega arith
above_double W32 a le = omega arith
above_double W64 a le = omega arith

less_double : (w : Width) (a : ℕ) → a < limit w
    → pos ((limit w - 1) * limit w + a) -ℤ pos (limit w * limit w) ≡ negsuc (limit w - 1 - a)
less_double W8 a lt = omega (arith, ints)
less_double W16 a lt = omega (arith, ints)
less_double W32 a lt = omega (arith, ints)
less_double W64 a lt = omega (arith, ints)

-- a number below its copies of the top bit
double : (w : Width) (a h : ℕ) → a < limit w → h ≡ cond (ltb a (half w)) 0 (limit w - 1)
    → signed_double w (joined w h a) ≡ signed w a
double w a h lt e = elim (cases_lt a (half w)) [
  | inl l ↦
      let t : ltb a (half w) ≡ true = lt-ltb a (half w) l in
      let z : h ≡ 0 = e ∙ ap (λ (b : Bool). cond b 0 (limit w - 1)) t in
      let s : ltb a (limit w * half w) ≡ true = lt-ltb a (limit w * half w) (below_double w a l) in
      ap (signed_double w) (joined_is w a h z)
      ∙ ap (λ (b : Bool). cond b (pos a) (pos a -ℤ pos (limit w * limit w))) s
      ∙ sym (signed_low w a l)
  | inr g ↦
      let t : ltb a (half w) ≡ false = le-ltb a (half w) g in
      let z : h ≡ limit w - 1 = e ∙ ap (λ (b : Bool). cond b 0 (limit w - 1)) t in
      let m : ℕ = (limit w - 1) * limit w + a in
      let n : joined w h a ≡ m = ap (λ (x : ℕ). x * limit w + a) z in
      let s : ltb m (limit w * half w) ≡ false = le-ltb m (limit w * half w) (above_double w a g) in
      ap (signed_double w) n ∙ ap (λ (b : Bool). cond b (pos m) (pos m -ℤ pos (limit w * limit w)))
      s ∙ less_double w a lt ∙ sym (signed_high w a g lt)
]

-- what the sign of RAX makes of the two halves
double_is : (z : Size) (x h : ℕ) → h ≡ high_of Signed (width z) x
    → signed_double (width z) (joined (width z) h (low (width z) x)) ≡ signed (width z) x
double_is Int x h e = double W32 (low W32 x) h (low_below W32 x) e ∙ signed_twice W32 x
double_is Long x h e = double W64 (low W64 x) h (low_below W64 x) e ∙ signed_twice W64 x

-- ---- the instruction

abbrev Quotients : Signedness → Size → MachineView → Type 0
Quotients Signed z v = (rip : ℕ) (f : Flags) → effect (machine v rip f)
    (instrs.Divide (division Signed) (width z) (places.Register Rcx))
    ≡ with_quotient (machine v rip f) (width z)
    (wrapped_both (width z) (divided_signed (width z) (signed (width z) v.rax)
    (signed (width z) v.rcx)))
Quotients Unsigned z v = (rip : ℕ) (f : Flags)
    → effect (machine v rip f) (instrs.Divide (division Unsigned) (width z) (places.Register Rcx))
    ≡ with_quotient (machine v rip f) (width z)
    (divided_unsigned (width z) (low (width z) v.rax) (low (width z) v.rcx))

quotients : (s : Signedness) (z : Size) (v : MachineView)
    → low (width z) v.rdx ≡ high_of s (width z) v.rax → Quotients s z v
quotients Signed z v e = λ rip f.
    ap (λ (d : ℤ). with_quotient (machine v rip f) (width z)
    (wrapped_both (width z) (divided_signed (width z) d
    (signed (width z) (low (width z) v.rcx))))) (double_is z v.rax (low (width z) v.rdx) e)
    ∙ ap (λ (d : ℤ). with_quotient (machine v rip f) (width z)
    (wrapped_both (width z) (divided_signed (width z) (signed (width z) v.rax) d)))
    (signed_twice (width z) v.rcx)
quotients Unsigned z v e = λ rip f.
    ap (λ (n : ℕ). with_quotient (machine v rip f) (width z)
    (divided_unsigned (width z) n (low (width z) v.rcx)))
    (joined_is (width z) (low (width z) v.rax) (low (width z) v.rdx) e)

abbrev pub by_rcx : Signedness → Size → Instr
by_rcx s z = instrs.Divide (division s) (width z) (places.Register Rcx)

abbrev divided_view : MachineView → ℕ → ℕ → MachineView
divided_view v q r = record v { rax = q; rdx = r }

both_given : (s : Signedness) (z : Size) (v : MachineView) (q r : ℕ) → q < limit (width z)
    → r < limit (width z) → ((rip : ℕ) (f : Flags)
    → effect (machine v rip f) (by_rcx s z) ≡ with_quotient (machine v rip f) (width z) (Ok (q, r)))
    → Executes (by_rcx s z ∷ []) v (divided_view v q r)
both_given s Int v q r lq lr h = executes_one (by_rcx s Int) v (divided_view v q r)
    (λ rip f. (
      f,
      h rip f ∙ ap (λ (a : ℕ). Ok (machine (divided_view v a (low W32 r)) rip f))
          (low_is W32 q lq) ∙ ap (λ (a : ℕ). Ok (machine (divided_view v q a) rip f))
          (low_is W32 r lr),
    ))
both_given s Long v q r lq lr h = executes_one (by_rcx s Long) v (divided_view v q r)
    (λ rip f. (
      f,
      h rip f ∙ ap (λ (a : ℕ). Ok (machine (divided_view v a (low W64 r)) rip f))
          (low_is W64 q lq) ∙ ap (λ (a : ℕ). Ok (machine (divided_view v q a) rip f))
          (low_is W64 r lr),
    ))

moved : (v : MachineView) (q r : ℕ) → r < 2 ^ 64
    → Executes (move W64 Rax Rdx ∷ []) (divided_view v q r) (divided_view v r r)
moved v q r lt = executes_one (move W64 Rax Rdx) (divided_view v q r) (divided_view v r r)
    (λ rip f. (
      f,
      ap (λ (a : ℕ). Ok (machine (divided_view v a r) rip f))
          (let e : low W64 (low W64 r) ≡ r = omega arith in e),
    ))

quotient_leads : (reserved : ℕ → Bool) (s : Signedness) (z : Size) (v : MachineView)
    (source : Memory) (q r : ℕ) → q < limit (width z) → r < limit (width z)
    → ((rip : ℕ) (f : Flags) → effect (machine v rip f) (by_rcx s z)
    ≡ with_quotient (machine v rip f) (width z) (Ok (q, r))) → Agrees reserved v.memory source
    → LeavesResult reserved (by_rcx s z ∷ []) v q source
quotient_leads reserved s z v source q r lq lr h agrees = record {
  after = v.memory;
  yields = record { rcx = v.rcx; rdx = r; does = both_given s z v q r lq lr h };
  small = of_size z q lq;
  agrees = agrees;
  protection = refl;
  own = λ a o. refl;
  bytes = λ x. x;
}

remainder_leads : (reserved : ℕ → Bool) (s : Signedness) (z : Size) (v : MachineView)
    (source : Memory) (q r : ℕ) → q < limit (width z) → r < limit (width z)
    → ((rip : ℕ) (f : Flags) → effect (machine v rip f) (by_rcx s z)
    ≡ with_quotient (machine v rip f) (width z) (Ok (q, r))) → Agrees reserved v.memory source
    → LeavesResult reserved (by_rcx s z ∷ move W64 Rax Rdx ∷ []) v r source
remainder_leads reserved s z v source q r lq lr h agrees = record {
  after = v.memory;
  yields = record {
    rcx = v.rcx;
    rdx = r;
    does = executes_then (by_rcx s z ∷ [])
        (move W64 Rax Rdx ∷ []) v (divided_view v q r) (divided_view v r r)
        (both_given s z v q r lq lr h) (moved v q r (of_size z r lr));
  };
  small = of_size z r lr;
  agrees = agrees;
  protection = refl;
  own = λ a o. refl;
  bytes = λ x. x;
}

signed_quotient : (reserved : ℕ → Bool) (z : Size) (v : MachineView) (source : Memory)
    (d : Result (ℤ × ℤ) DivFault) → ((rip : ℕ) (f : Flags)
    → effect (machine v rip f) (by_rcx Signed z)
    ≡ with_quotient (machine v rip f) (width z) (wrapped_both (width z) d))
    → Agrees reserved v.memory source → Implements reserved (by_rcx Signed z ∷ []) v
    (signed_part (λ x. x.0) (width z) source d)
signed_quotient reserved z v source (Ok x) h agrees = quotient_leads reserved Signed z v source
    (wrapped (width z) x.0) (wrapped (width z) x.1) (wrapped_below (width z) x.0)
    (wrapped_below (width z) x.1) h agrees
signed_quotient reserved z v source (Err faults.Zero) h agrees = h
signed_quotient reserved z v source (Err faults.Overflow) h agrees = h

signed_remainder : (reserved : ℕ → Bool) (z : Size) (v : MachineView) (source : Memory)
    (d : Result (ℤ × ℤ) DivFault) → ((rip : ℕ) (f : Flags)
    → effect (machine v rip f) (by_rcx Signed z)
    ≡ with_quotient (machine v rip f) (width z) (wrapped_both (width z) d))
    → Agrees reserved v.memory source → Implements reserved
    (by_rcx Signed z ∷ move W64 Rax Rdx ∷ []) v (signed_part (λ x. x.1) (width z) source d)
signed_remainder reserved z v source (Ok x) h agrees = remainder_leads reserved Signed z v source
    (wrapped (width z) x.0) (wrapped (width z) x.1) (wrapped_below (width z) x.0)
    (wrapped_below (width z) x.1) h agrees
signed_remainder reserved z v source (Err faults.Zero) h agrees = h
signed_remainder reserved z v source (Err faults.Overflow) h agrees = h

-- both parts of an unsigned division fit
abbrev Small : Width → ℕ × ℕ → Type 0
Small w x = (x.0 < limit w) × (x.1 < limit w)

small_unsigned : (w : Width) (a b : ℕ) (x : ℕ × ℕ) (zero large : Bool) → a < limit w
    → ◌≡◌ {A = Result (ℕ × ℕ) DivFault} (cond zero (Err faults.Zero)
    (cond large (Ok (a / b, a % b)) (Err faults.Overflow))) (Ok x) → Small w x
small_unsigned w a b x true large lt e = absurd cc
small_unsigned w a b x false true lt e =
    let q : a / b ≡ x.0 = ap (λ (r : Result (ℕ × ℕ) DivFault). first_of r) e in
    let m : a % b ≡ x.1 = ap (λ (r : Result (ℕ × ℕ) DivFault). second_of r) e in
    let le = div-le_self a b in
    let ml = mod-le a b in
    (omega arith, omega arith)
  where
    first_of : Result (ℕ × ℕ) DivFault → ℕ
    first_of (Ok y) = y.0
    first_of (Err f) = 0

    second_of : Result (ℕ × ℕ) DivFault → ℕ
    second_of (Ok y) = y.1
    second_of (Err f) = 0
small_unsigned w a b x false false lt e = absurd cc

unsigned_quotient : (reserved : ℕ → Bool) (z : Size) (v : MachineView) (source : Memory)
    (d : Result (ℕ × ℕ) DivFault) → ((x : ℕ × ℕ) → d ≡ Ok x → Small (width z) x)
    → ((rip : ℕ) (f : Flags) → effect (machine v rip f) (by_rcx Unsigned z)
    ≡ with_quotient (machine v rip f) (width z) d) → Agrees reserved v.memory source
    → Implements reserved (by_rcx Unsigned z ∷ []) v (unsigned_part (λ x. x.0) source d)
unsigned_quotient reserved z v source (Ok x) small h agrees = let s = small x refl in
    quotient_leads reserved Unsigned z v source x.0 x.1 s.0 s.1 h agrees
unsigned_quotient reserved z v source (Err faults.Zero) small h agrees = h
unsigned_quotient reserved z v source (Err faults.Overflow) small h agrees = h

unsigned_remainder : (reserved : ℕ → Bool) (z : Size) (v : MachineView) (source : Memory)
    (d : Result (ℕ × ℕ) DivFault) → ((x : ℕ × ℕ) → d ≡ Ok x → Small (width z) x)
    → ((rip : ℕ) (f : Flags) → effect (machine v rip f) (by_rcx Unsigned z)
    ≡ with_quotient (machine v rip f) (width z) d) → Agrees reserved v.memory source
    → Implements reserved (by_rcx Unsigned z ∷ move W64 Rax Rdx ∷ []) v
    (unsigned_part (λ x. x.1) source d)
unsigned_remainder reserved z v source (Ok x) small h agrees = let s = small x refl in
    remainder_leads reserved Unsigned z v source x.0 x.1 s.0 s.1 h agrees
unsigned_remainder reserved z v source (Err faults.Zero) small h agrees = h
unsigned_remainder reserved z v source (Err faults.Overflow) small h agrees = h

fits_unsigned : (w : Width) (a b : ℕ) (x : ℕ × ℕ) → divided_unsigned w (low w a) (low w b) ≡ Ok x
    → Small w x
fits_unsigned w a b x e = small_unsigned w (low w a) (low w b) x (eqb (low w b) 0)
    (ltb (low w a / low w b) (limit w)) (low_below w a) e

pub quotient_implemented : (reserved : ℕ → Bool) (s : Signedness) (z : Size) (v : MachineView)
    (source : Memory) → low (width z) v.rdx ≡ high_of s (width z) v.rax
    → Agrees reserved v.memory source → Implements reserved (by_rcx s z ∷ []) v
    (quotient s (width z) v.rax v.rcx source)
quotient_implemented reserved Signed z v source e agrees = signed_quotient reserved z v source
    (divided_signed (width z) (signed (width z) v.rax) (signed (width z) v.rcx))
    (quotients Signed z v e) agrees
quotient_implemented reserved Unsigned z v source e agrees = unsigned_quotient reserved z v source
    (divided_unsigned (width z) (low (width z) v.rax) (low (width z) v.rcx))
    (fits_unsigned (width z) v.rax v.rcx) (quotients Unsigned z v e) agrees

pub remainder_implemented : (reserved : ℕ → Bool) (s : Signedness) (z : Size) (v : MachineView)
    (source : Memory) → low (width z) v.rdx ≡ high_of s (width z) v.rax
    → Agrees reserved v.memory source → Implements reserved (by_rcx s z ∷ move W64 Rax Rdx ∷ []) v
    (remainder s (width z) v.rax v.rcx source)
remainder_implemented reserved Signed z v source e agrees = signed_remainder reserved z v source
    (divided_signed (width z) (signed (width z) v.rax) (signed (width z) v.rcx))
    (quotients Signed z v e) agrees
remainder_implemented reserved Unsigned z v source e agrees = unsigned_remainder reserved z v source
    (divided_unsigned (width z) (low (width z) v.rax) (low (width z) v.rcx))
    (fits_unsigned (width z) v.rax v.rcx) (quotients Unsigned z v e) agrees

-- ---- what is before it

pub record HalfSet (s : Signedness) (z : Size) (v : MachineView) : Type 0 where
  pub rdx : ℕ
  pub does : Executes (high_half s (width z) ∷ []) v
      (record v { rdx = rdx })
  pub half : low (width z) rdx ≡ high_of s (width z) v.rax

abbrev with_rdx : MachineView → ℕ → MachineView
with_rdx v x = record v { rdx = x }

half_low : (w : Width) (b : Bool) → low w (cond b 0 (limit w - 1)) ≡ cond b 0 (limit w - 1)
half_low W8 true = refl
half_low W8 false = refl
half_low W16 true = refl
half_low W16 false = refl
half_low W32 true = refl
half_low W32 false = refl
half_low W64 true = refl
half_low W64 false = refl

pub half_set : (s : Signedness) (z : Size) (v : MachineView) → HalfSet s z v
half_set Unsigned Int v = record {
  rdx = 0;
  does = executes_one (high_half Unsigned W32) v
      (with_rdx v 0) (λ rip f. (f, refl));
  half = refl;
}
half_set Unsigned Long v = record {
  rdx = 0;
  does = executes_one (high_half Unsigned W64) v
      (with_rdx v 0) (λ rip f. (f, refl));
  half = refl;
}
half_set Signed Int v =
    let h : ℕ = cond (ltb (low W32 v.rax) (half W32)) 0 (limit W32 - 1) in
    record {
      rdx = low W32 h;
      does = executes_one (high_half Signed W32) v (with_rdx v (low W32 h))
          (λ rip f. (f, refl));
      half = twice W32 h ∙ half_low W32 (ltb (low W32 v.rax) (half W32));
    }
half_set Signed Long v =
    let h : ℕ = cond (ltb (low W64 v.rax) (half W64)) 0 (limit W64 - 1) in
    record {
      rdx = low W64 h;
      does = executes_one (high_half Signed W64) v (with_rdx v (low W64 h))
          (λ rip f. (f, refl));
      half = twice W64 h ∙ half_low W64 (ltb (low W64 v.rax) (half W64));
    }
