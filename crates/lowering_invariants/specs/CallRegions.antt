-- A region holds a call if and only if it holds the instruction after it.
use Rattle.std.specs.Prelude.{◌≡◌, ℕ, ◌+◌, true, slice_get, Some}
use Rattle.std.specs.List.{AllByRecursion}
use Rattle.linear_code.specs.declared.instruction.Instruction.{Instruction}
use Rattle.linear_code.specs.declared.program.Region.{Region}
use Rattle.linear_code.specs.Program.{LinearBody}
use Rattle.linear_machine.specs.Regions.{holds}
use Rattle.lowering_invariants.specs.ReturnRegions.{is_call}

abbrev pub HasSameRegions : LinearBody → Type 0
HasSameRegions b =
    (label : ℕ) (i : Instruction) → slice_get b.code label ≡ Some i → is_call i ≡ true
    → AllByRecursion (λ (r : Region). holds (label + 1) r ≡ holds label r) b.regions
