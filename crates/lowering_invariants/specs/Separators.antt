-- What stands around calls, where regions begin and end, and where blocks and local unwinds land.
--
-- A return address is never the place of an epilogue, nor where a region begins or ends: the
-- template of a call keeps the result after it (crate template_code, `call_code`), and after those
-- that run `__finally` blocks, which end with their calls, is an instruction that does nothing.
--
-- The main definition: `HasSeparators`.
use Rattle.std.specs.Prelude.{◌≡◌, ℕ, ◌+◌, ◌<◌, Bool, true, false, length, slice_get, Some}
use Rattle.std.specs.List.{AllByRecursion}
use Rattle.c_operations.specs.declared.operation.Operation.{Operation}
use Rattle.c_operations.specs.declared.operation.Operation.TheVariants.{SetPointer}
use Rattle.linear_code.specs.declared.slot.Slot.TheVariants.{Local}
use Rattle.linear_code.specs.declared.instruction.Instruction.{Instruction}
use Rattle.linear_code.specs.declared.instruction.Instruction.TheVariants.{Compute, Landing, LocalUnwind, Return, Separator}
use Rattle.linear_code.specs.declared.program.Region.{Region}
use Rattle.linear_code.specs.declared.program.RegionKind.{RegionKind}
use Rattle.linear_code.specs.declared.program.RegionKind.TheVariants.{Finally, Filter, Always}
use Rattle.linear_code.specs.Program.{LinearBody}
use Rattle.linear_machine.specs.Frames.{BodyName, FunctionBody, FuncletBody}
use Rattle.linear_machine.specs.Regions.{holds}
use Rattle.lowering_invariants.specs.BlockSeparators.{IsFollowed}
use Rattle.lowering_invariants.specs.CallRegions.{HasSameRegions}
use Rattle.lowering_invariants.specs.ReturnRegions.{is_call}

-- a region of a body of n instructions has some, and one comes after it
pub record IsInside (n : ℕ) (r : Region) : Type 0 where
  pub some : r.begin < r.end
  pub before : r.end < n

-- a function begins with an instruction that does nothing, before all regions; a funclet begins
-- with what keeps its establisher frame (crate image_tables, `LoweredBeginsPastPrologues`)
abbrev pub BeginsApart : BodyName → LinearBody → Type 0
BeginsApart (FunctionBody f) b =
    (slice_get b.code 0 ≡ Some Separator)
    × AllByRecursion (λ (r : Region). 0 < r.begin) b.regions
BeginsApart (FuncletBody k) b = Unit {0}

-- the `__except` block of this region's `__try` begins at this label
abbrev pub HasBlock : ℕ → RegionKind → Type 0
HasBlock label (Finally k) = ⊥
HasBlock label (Filter k target) = target ≡ label
HasBlock label (Always target) = target ≡ label

-- an `__except` block begins at this label, with an instruction of its own, strictly inside the
-- regions that hold it in the source: no region begins there, and one that ends there is that of
-- its own `__try`
pub record LandsInside (b : LinearBody) (label : ℕ) : Type 0 where
  pub slot : ℕ
  pub landing : slice_get b.code label ≡ Some (Landing (Local slot))
  pub begins : AllByRecursion (λ (r : Region). r.begin ≡ label → ⊥) b.regions
  pub ends : AllByRecursion (λ (r : Region). r.end ≡ label → HasBlock label r.kind) b.regions

abbrev pub HasLanding : LinearBody → RegionKind → Type 0
HasLanding b (Finally k) = Unit {0}
HasLanding b (Filter k target) = LandsInside b target
HasLanding b (Always target) = LandsInside b target

-- where a local unwind may land: an instruction that does nothing, or the end of a function, which
-- gives its part of the data stack back
abbrev pub sets_pointer : Operation → Bool
sets_pointer (SetPointer n) = true
sets_pointer o = false

abbrev pub is_target : Instruction → Bool
is_target Separator = true
is_target (Return from) = true
is_target (Compute to o first second) = sets_pointer o
is_target i = false

-- no region begins or ends at the target of a local unwind, so that each one that holds the target
-- in the source begins before it and ends after it; and that one holds the local unwind too
pub record HoldsStrictly (label to : ℕ) (r : Region) : Type 0 where
  pub begins : r.begin ≡ to → ⊥
  pub ends : r.end ≡ to → ⊥
  pub both : holds to r ≡ true → holds label r ≡ true

-- a local unwind leads forth, to an instruction of its own in its body, strictly inside the regions
-- that hold it in the source
pub record LeadsForth (b : LinearBody) (label to : ℕ) : Type 0 where
  pub forth : label < to
  pub instruction : Instruction
  pub there : slice_get b.code to ≡ Some instruction
  pub own : is_target instruction ≡ true
  pub inside : AllByRecursion (HoldsStrictly label to) b.regions

-- of a body, what keeps calls, regions and places to land apart. A region holds a call exactly
-- where it holds the instruction after it. After what runs `__finally` blocks a separator comes. No
-- region is empty, and after each comes an instruction. A function begins with a separator, before
-- its regions. Each `__except` block begins with its landing, where no region begins, and none ends
-- but that of its own `__try` (`LandsInside`). A local unwind leads forth, to a separator or to the
-- end of its function (`is_target`), where no region begins or ends. Each region that holds its
-- target holds the local unwind too (`HoldsStrictly`, `LeadsForth`).
pub record HasSeparators (name : BodyName) (b : LinearBody) : Type 0 where
  -- a call returns to its body, and no region begins or ends before the instruction there
  pub returns : (label : ℕ) (i : Instruction) → slice_get b.code label ≡ Some i → is_call i ≡ true
      → label + 1 < length b.code
  pub calls : HasSameRegions b
  pub blocks : IsFollowed b
  pub regions : AllByRecursion (IsInside (length b.code)) b.regions
  pub begin : BeginsApart name b
  pub landings : AllByRecursion (λ (r : Region). HasLanding b r.kind) b.regions
  pub unwinds : (label to : ℕ) → slice_get b.code label ≡ Some (LocalUnwind to)
      → LeadsForth b label to
