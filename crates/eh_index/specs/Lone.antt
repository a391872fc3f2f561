-- Which entries are read by their own unwind info alone.
--
-- The main definition: `lone`.
use Rattle.std.specs.Prelude.{ℕ, Bool, true, false, is_ok, List, slice_index_or, Option, Some, None, Ok, if◌then◌else◌}
use Rattle.seh_num.specs.Answers.{◌>>=◌}
use Rattle.eh_tables.specs.declared.range.RuntimeFunction.{RuntimeFunction}
use Rattle.eh_tables.specs.declared.lookup.FunctionEntry.{FunctionEntry}
use Rattle.eh_tables.specs.Answer.{Table}
use Rattle.eh_tables.specs.Infos.{Info, info}
use Rattle.eh_tables.specs.Known.{range_checked}
use Rattle.eh_tables.specs.Tables.{Tables, end_before, no_range}

-- a range isn't empty, and not below the entry before
abbrev pub is_in_order : List RuntimeFunction → ℕ → Bool
is_in_order rs number =
    is_ok (range_checked number (end_before rs number) (slice_index_or rs number no_range))

-- by its own info, if that is chained to none
abbrev pub if_unchained : RuntimeFunction → Info → Option RuntimeFunction → Option FunctionEntry
if_unchained range i None = Some (record { range = range; info = i })
if_unchained range i (Some parent) = None

-- none where the range isn't in order, or the info is chained
abbrev pub lone : Tables → ℕ → Table (Option FunctionEntry)
lone t number =
    let range = slice_index_or t.ranges number no_range in
    if is_in_order t.ranges number
    then (info t.image number range.unwind_info >>= λ i. Ok (if_unchained range i i.parent))
    else Ok None
