-- What comes after an instruction that runs `__finally` blocks: one that does nothing, so that its
-- return address begins no epilogue.
use Rattle.std.specs.Prelude.{◌≡◌, ℕ, ◌+◌, Bool, true, false, slice_get, Some}
use Rattle.linear_code.specs.declared.instruction.Instruction.{Instruction}
use Rattle.linear_code.specs.declared.instruction.Instruction.TheVariants as instructions
use Rattle.linear_code.specs.Program.{LinearBody}

-- the end of a guarded body, and a way out of some
abbrev pub runs_blocks : Instruction → Bool
runs_blocks (instructions.CallFinally k) = true
runs_blocks (instructions.LocalUnwind label) = true
runs_blocks i = false

abbrev pub IsFollowed : LinearBody → Type 0
IsFollowed b =
    (label : ℕ) (i : Instruction) → slice_get b.code label ≡ Some i → runs_blocks i ≡ true
    → slice_get b.code (label + 1) ≡ Some instructions.Separator
