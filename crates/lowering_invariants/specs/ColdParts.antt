-- What is known of the cold parts of a body, which may stand apart from the rest of it: nothing
-- falls into one or out of it, no region meets it, and no local unwind leads into it.
use Rattle.std.specs.Prelude.{◌≡◌, ◌⊎◌, ℕ, ◌+◌, ◌<◌, ◌≤◌, Bool, true, false, List, [], ◌∷◌, length, slice_get, Some}
use Rattle.std.specs.List.{AllByRecursion}
use Rattle.linear_code.specs.declared.instruction.Instruction.{Instruction}
use Rattle.linear_code.specs.declared.instruction.Instruction.TheVariants as instructions
use Rattle.linear_code.specs.declared.program.LabelRange.{LabelRange}
use Rattle.linear_code.specs.declared.program.Region.{Region}
use Rattle.linear_code.specs.Program.{LinearBody}
use Rattle.lowering_invariants.specs.ReturnRegions.{is_call}

-- one that doesn't end its body, runs no `__finally` block and begins no `__except` block
abbrev pub may_be_cold : Instruction → Bool
may_be_cold (instructions.CallFinally k) = false
may_be_cold (instructions.LocalUnwind label) = false
may_be_cold (instructions.Landing to) = false
may_be_cold (instructions.Return from) = false
may_be_cold i = true

-- what is before this label is a jump, so that nothing falls through to it
pub record IsAfterJump (code : List Instruction) (label : ℕ) : Type 0 where
  pub place : ℕ
  pub before : place + 1 ≡ label
  pub to : ℕ
  pub jump : slice_get code place ≡ Some (instructions.Jump to)

-- one of these instructions is a call
pub record HoldsCall (code : List Instruction) (low high : ℕ) : Type 0 where
  pub label : ℕ
  pub begins : low ≤ label
  pub ends : label < high
  pub instruction : Instruction
  pub there : slice_get code label ≡ Some instruction
  pub call : is_call instruction ≡ true

-- a region holds no instruction of the part, doesn't begin or end at one, and its block, which
-- begins where it ends, doesn't either
abbrev pub IsApart : LabelRange → Region → Type 0
IsApart p r = (r.end < p.begin) ⊎ (p.end ≤ r.begin)

abbrev pub IsOutOf : ℕ → LabelRange → Type 0
IsOutOf label p = (label < p.begin) ⊎ (p.end ≤ label)

pub record IsColdPart (b : LinearBody) (p : LabelRange) : Type 0 where
  pub some : p.begin < p.end
  pub inside : p.end < length b.code
  -- a jump is before it, and one ends it
  pub begins : IsAfterJump b.code p.begin
  pub ends : IsAfterJump b.code p.end
  -- so its body is no leaf
  pub calls : HoldsCall b.code p.begin p.end
  pub plain : (label : ℕ) (i : Instruction) → p.begin ≤ label → label < p.end
      → slice_get b.code label ≡ Some i → may_be_cold i ≡ true
  pub regions : AllByRecursion (IsApart p) b.regions

-- one after another, with something between two of them and before the first
abbrev pub AreRising : ℕ → List LabelRange → Type 0
AreRising low [] = Unit {0}
AreRising low (p ∷ ps) = (low < p.begin) × AreRising p.end ps

pub record HasColdParts (b : LinearBody) : Type 0 where
  pub parts : AllByRecursion (IsColdPart b) b.cold
  pub rising : AreRising 0 b.cold
  -- no local unwind leads into one
  pub unwinds : (label to : ℕ) → slice_get b.code label ≡ Some (instructions.LocalUnwind to)
      → AllByRecursion (IsOutOf to) b.cold
