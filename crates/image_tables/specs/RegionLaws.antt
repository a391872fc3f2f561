-- What the linear code of every checked program is like, and so the function table of its image.
--
-- The main definitions: `BeginsPastPrologue`, `IsShaped`.
use Rattle.std.specs.Prelude.{◌≡◌, ◌+◌, ◌<◌, length}
use Rattle.std.specs.List.{AllByRecursion, count_by}
use Rattle.eh_tables.specs.declared.scope.ScopeRecord.{ScopeRecord}
use Rattle.eh_tables.specs.Tables.{Entry}
use Rattle.c_checked.specs.Program.{Program}
use Rattle.c_checked.specs.Sound.{IsSound}
use Rattle.seh_ir.specs.Lowered.{lowered}
use Rattle.image_link.specs.Fits.{FitsProgram}
use Rattle.image_tables.specs.RegionRanges.{HasRegions}
use Rattle.image_tables.specs.Entries.{entries}
use Rattle.image_tables.specs.RegionRows.{AreDifferent, rows_of, is_finally_row, is_always_row, handlers, NamesFunclets}
use Rattle.image_tables.specs.ShapeLaws.{HasShape}
use Rattle.image_tables.specs.Tries.{all_tries, finishes, accepts}

-- each region is a range of its body's instructions
abbrev pub LoweredHasRegions : Type 0
LoweredHasRegions = (p : Program) → HasRegions (lowered p)

-- the scope records of an entry begin past the end of its prologue
abbrev pub BeginsPastPrologue : Entry → Type 0
BeginsPastPrologue e =
    AllByRecursion (λ (row : ScopeRecord). e.range.begin + e.info.prologue_size < row.begin)
    e.info.scopes

-- no region of a function or of a funclet begins where its prologue ends
abbrev pub LoweredBeginsPastPrologues : Type 0
LoweredBeginsPastPrologues =
    (p : Program) → FitsProgram (lowered p)
    → AllByRecursion BeginsPastPrologue (entries (lowered p))

-- each filter and `__finally` block of a sound program is named by one region
abbrev pub LoweredNamesFunclets : Type 0
LoweredNamesFunclets = (p : Program) → IsSound p → NamesFunclets (lowered p)

-- the image of a sound program: one row for each `__try`, as many without JumpTarget as there are
-- `__finally` blocks, as many with HandlerAddress 1 as there are filters that always accept; the
-- other handler addresses are all different, and each is the first byte of an entry (`shape`, with
-- `names`)
pub record IsShaped (p : Program) : Type 0 where
  pub shape : HasShape (lowered p)
  -- each filter and `__finally` block is there, and is named by one region
  pub names : NamesFunclets (lowered p)
  pub tries : length (rows_of (entries (lowered p))) ≡ length (all_tries p)
  pub finally : count_by is_finally_row (rows_of (entries (lowered p)))
      ≡ count_by finishes (all_tries p)
  pub always : count_by is_always_row (rows_of (entries (lowered p)))
      ≡ count_by accepts (all_tries p)
  pub handlers : AreDifferent (handlers (rows_of (entries (lowered p))))

abbrev pub LoweredIsShaped : Type 0
LoweredIsShaped = (p : Program) → IsSound p → FitsProgram (lowered p) → IsShaped p
