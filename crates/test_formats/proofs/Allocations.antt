-- The code of an allocation, whatever its size, takes few bytes.
use Rattle.std.proofs.Common.{ℕ, ◌+◌, ◌-◌, ◌/◌, ◌≤◌, Bool, true, false, List, [], ◌∷◌, ◌++◌, length, arith}
use Rattle.std.specs.Prelude.{if◌then◌else◌}
use Rattle.eh_tables.specs.declared.code.UnwindOperation.TheVariants.{Allocate}
use Rattle.pe_image.specs.Numbers.{u16, u32}
use Rattle.eh_write.specs.Written.{codes_bytes, slot, is_small, is_short}

abbrev bytes_by : ℕ → ℕ → Bool → Bool → List ℕ
bytes_by offset size small short =
    if small then slot offset 2 (size / 8 - 1)
    else (if short then slot offset 1 0 ++ u16 (size / 8) else slot offset 1 1 ++ u32 size)

few_by : (offset size : ℕ) (small short : Bool)
    → length (bytes_by offset size small short ++ []) ≤ 510
unfolding u16 u32
few_by offset size true short = omega arith
few_by offset size false true = omega arith
few_by offset size false false = omega arith

pub few : (offset size : ℕ) → length (codes_bytes
    (record { offset = offset; operation = Allocate size } ∷ [])) ≤ 510
few offset size = few_by offset size (is_small size) (is_short 8 size)
