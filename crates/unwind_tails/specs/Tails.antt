-- The trailing part of a legal epilogue, by how many instructions it has (Microsoft x64 ABI,
-- "Epilog code").
--
-- The main definition: `IsTail`.
use Rattle.std.specs.Prelude.{◌≡◌, ℕ, ◌+◌, ◌<◌, ◌≤◌, Bool, List, length, Option, Some, None, option_map}
use Rattle.x64_instr.specs.declared.instruction.Instr.{Instr}
use Rattle.virtual_unwind.specs.Tail.{FetchedInstr, role_of}
use Rattle.virtual_unwind.specs.After.{Part, part_of}
use Rattle.unwind_tails.specs.declared.tail.Tail.{Tail}
use Rattle.unwind_tails.specs.declared.tail.Tail.TheVariants.{Missing, Inside, Outside}

-- how far the part goes that has so many instructions, where so many are inside the entry
abbrev pub IsTail : ℕ → Option ℕ → Tail → Type 0
IsTail inside count Missing = count ≡ None
IsTail inside count (Inside n) = (count ≡ Some n) × (n ≤ inside)
IsTail inside count Outside = (n : ℕ) × (count ≡ Some n) × (inside < n)

-- whether an instruction ends it; none where it belongs to none
abbrev pub is_last : ℕ → Bool → FetchedInstr → Option Bool
is_last f first x =
    option_map (λ (p : Part). p.2) (part_of first x (role_of f x.plain x.instr))

-- how many instructions there are past so many
abbrev pub counted : ℕ → Option (List Instr) → Option ℕ
counted n None = None
counted n (Some is) = Some (n + length is)
