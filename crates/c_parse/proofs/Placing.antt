-- Where globals lie.
use Rattle.std.proofs.Common.{◌≤◌, ℕ, zero, suc, List, [], ◌∷◌, Some, arith}
use Rattle.c_parse.specs.Words.{Base, size, aligned, end_of_globals, Global, end_of}
use Rattle.c_syntax.specs.declared.expression.Base.TheVariants as bases
use Rattle.c_parse_stmt.proofs.ArrayEnds.{aligned_up}

-- globals end where they begin, or after it
pub grows : (base : Base) (gs : List Global) (at : ℕ) → at ≤ end_of_globals base gs at
grows base [] at = omega arith
grows base (g ∷ gs) at =
    let a = aligned_up at (size base g.pointers) in
    let b = grows base gs (end_of base g.pointers g.length at) in
    omega arith

-- each limit of bytes is at a multiple of each size
pub aligned_low : (base : Base) (n at : ℕ) → at ≤ 1048576 → aligned at (size base n) ≤ 1048576
aligned_low base (suc n) at h = omega arith
aligned_low bases.Void zero at h = h
aligned_low base zero at h = omega arith

-- an array with no elements has room
pub no_elements : (base : Base) (n at : ℕ) → at ≤ 1048576
    → end_of base n (Some (record { at = 0; value = 0 })) at ≤ 1048576
no_elements base n at h = let a = aligned_low base n at h in omega arith
