-- Where elements of a size end, and where arrays do.
use Rattle.std.proofs.Common.{◌≡◌, ◌≤◌, ◌<◌, ◌+◌, ◌-◌, ◌*◌, ◌/◌, ℕ, zero, suc, List, [], ◌∷◌, Option, Some, None}
use Rattle.std.proofs.Common.{refl, ap, subst, arith}
use Rattle.std.proofs.Math.Nat.{mul-le-mul_left, lt-div-mul-add, lt-mul-div-succ}
use Rattle.c_parse_stmt.specs.Words.{Base, Length, size, aligned, end_of_local, end_of_locals, end_of_for_initialiser, end_of_arrays, end_of_all_arrays, Local, ForInitialiser, Declaring, Evaluating, Statement, Declare, Block, Evaluate, If, IfElse, While, DoWhile, For, Return, Break, Continue, Leave, TryExcept, TryFinally, Statements, Empty, Then}
use Rattle.c_syntax.specs.declared.expression.Base.TheVariants as bases

-- ---- by division

-- alignment by division
pub aligned_by : (at n : ℕ) → (n ≡ 0 → ⊥) → (at + (n - 1)) / n * n ≡ aligned at n
aligned_by at zero h = absurd (h refl)
aligned_by at (suc n) h = let e : suc n - 1 ≡ n = omega arith in
    ap (λ (k : ℕ). (at + k) / suc n * suc n) e

pub aligned_up : (at n : ℕ) → at ≤ aligned at n
aligned_up at zero = omega arith
aligned_up at (suc n) =
    let a : at + n < (at + n) / suc n * suc n + suc n = lt-div-mul-add (omega arith) in
    omega arith

pub too_far : (most start size count : ℕ) → 0 < size → start ≤ most → (most - start) / size < count
    → most < start + size * count
too_far most start size count p s h =
    let a : most - start < size * ((most - start) / size + 1) = lt-mul-div-succ (most - start) p in
    let b : size * ((most - start) / size + 1) ≤ size * count =
    mul-le-mul_left size (omega arith) in
    omega arith

pub positive : (n : ℕ) → (n ≡ 0 → ⊥) → 0 < n
positive zero h = absurd (h refl)
positive (suc n) h = omega arith

-- ---- by the size that was computed

pub room : (most : ℕ) (base : Base) (pointers at s count end : ℕ) → s ≡ size base pointers
    → end ≡ aligned at s + s * count → end ≤ most
    → aligned at (size base pointers) + size base pointers * count ≤ most
room most base pointers at s count end e f low = subst (λ (x : ℕ). aligned at x + x * count ≤ most)
    e (subst (λ (x : ℕ). x ≤ most) f low)

pub no_room : (most : ℕ) (base : Base) (pointers at s count : ℕ) → s ≡ size base pointers
    → most < aligned at s + s * count
    → most < aligned at (size base pointers) + size base pointers * count
no_room most base pointers at s count e far = subst (λ (x : ℕ). most < aligned at x + x * count) e
    far

-- ---- arrays end where they begin, or after it

pub local_grows : (base : Base) (pointers : ℕ) (l : Option Length) (at : ℕ)
    → at ≤ end_of_local base pointers l at
local_grows base pointers None at = omega arith
local_grows base pointers (Some n) at = let a = aligned_up at (size base pointers) in omega arith

pub locals_grow : (base : Base) (ls : List Local) (at : ℕ) → at ≤ end_of_locals base ls at
locals_grow base [] at = omega arith
locals_grow base (l ∷ ls) at =
    let a = local_grows base l.pointers l.length at in
    let b = locals_grow base ls (end_of_local base l.pointers l.length at) in
    omega arith

pub first_grows : (f : ForInitialiser) (at : ℕ) → at ≤ end_of_for_initialiser f at
first_grows (Declaring base ls) at = locals_grow base ls at
first_grows (Evaluating e) at = omega arith

mutual
  pub grows : (s : Statement) (at : ℕ) → at ≤ end_of_arrays s at
  grows (Declare base ls) at = locals_grow base ls at
  grows (Block ss) at = all_grow ss at
  grows (Evaluate e) at = omega arith
  grows (If place c s) at = grows s at
  grows (IfElse place c s t) at =
      let a = grows s at in
      let b = grows t (end_of_arrays s at) in
      omega arith
  grows (While place c s) at = grows s at
  grows (DoWhile s place c) at = grows s at
  grows (For place f c n s) at =
      let a = first_grows f at in
      let b = grows s (end_of_for_initialiser f at) in
      omega arith
  grows (Return place e) at = omega arith
  grows (Break place) at = omega arith
  grows (Continue place) at = omega arith
  grows (Leave place) at = omega arith
  grows (TryExcept body place f handler) at =
      let a = all_grow body at in
      let b = all_grow handler (end_of_all_arrays body at) in
      omega arith
  grows (TryFinally body place last) at =
      let a = all_grow body at in
      let b = all_grow last (end_of_all_arrays body at) in
      omega arith

  pub all_grow : (ss : Statements) (at : ℕ) → at ≤ end_of_all_arrays ss at
  all_grow Empty at = omega arith
  all_grow (Then s ss) at =
      let a = grows s at in
      let b = all_grow ss (end_of_arrays s at) in
      omega arith

-- ---- the limit

-- it is at a multiple of each size
aligned_low : (base : Base) (n at : ℕ) → at ≤ 65536 → aligned at (size base n) ≤ 65536
aligned_low base (suc n) at h = omega arith
aligned_low bases.Void zero at h = h
aligned_low base zero at h = omega arith

-- an array with no elements has room
pub no_elements : (base : Base) (n at : ℕ) → at ≤ 65536
    → end_of_local base n (Some (record { at = 0; value = 0 })) at ≤ 65536
no_elements base n at h = let a = aligned_low base n at h in omega arith
