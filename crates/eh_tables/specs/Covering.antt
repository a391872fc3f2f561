-- The entry whose range covers an address, by the ranges alone: no other entry is read.
--
-- The main definitions: `ranges_checked`, `RangesAscend`, `entry_covering`.
use Rattle.std.specs.Prelude.{◌≡◌, ℕ, ◌+◌, Bool, true, false, List, [], ◌∷◌, slice_index_or, Option, Some, None, Ok}
use Rattle.seh_num.specs.Answers.{◌>>=◌}
use Rattle.eh_tables.specs.declared.range.RuntimeFunction.{RuntimeFunction}
use Rattle.eh_tables.specs.declared.lookup.FunctionEntry.{FunctionEntry}
use Rattle.eh_tables.specs.Answer.{Table}
use Rattle.eh_tables.specs.Infos.{info}
use Rattle.eh_tables.specs.Known.{range_checked}
use Rattle.eh_tables.specs.Tables.{Entry, Tables, no_range, covers_address, entry_at}

-- from an index on, after one that ends there: none is empty, and none begins below the end of the
-- one before
abbrev pub ranges_checked : ℕ → ℕ → List RuntimeFunction → Table Unit
ranges_checked index last [] = Ok tt
ranges_checked index last (r ∷ rs) = do
  _ ← range_checked index last r
  ranges_checked (index + 1) r.end rs

pub record RangesAscend (rs : List RuntimeFunction) : Type 0 where
  pub checked : ranges_checked 0 0 rs ≡ Ok tt

-- the index of the first that covers an address, from an index on
abbrev pub index_or : Option ℕ → ℕ → Bool → Option ℕ
index_or others index true = Some index
index_or others index false = others

abbrev pub index_from : ℕ → ℕ → List RuntimeFunction → Option ℕ
index_from index rva [] = None
index_from index rva (r ∷ rs) =
    index_or (index_from (index + 1) rva rs) index (covers_address rva r)

-- the entry of an index, which is read when it is asked
abbrev pub entry_asked : Tables → Option ℕ → Table (Option Entry)
entry_asked t None = Ok None
entry_asked t (Some index) = entry_at t index >>= λ e. Ok (Some e)

-- the entry whose range covers an address in such a table, or its first refusal: no other entry is
-- read
abbrev pub entry_covering : Tables → ℕ → Table (Option Entry)
entry_covering t rva = entry_asked t (index_from 0 rva t.ranges)

-- the same without the infos that its own is chained to, which aren't read
abbrev pub function_asked : Tables → Option ℕ → Table (Option FunctionEntry)
function_asked t None = Ok None
function_asked t (Some index) = do
  i ← info t.image index (slice_index_or t.ranges index no_range).unwind_info
  Ok (Some (record { range = slice_index_or t.ranges index no_range; info = i }))

abbrev pub function_covering : Tables → ℕ → Table (Option FunctionEntry)
function_covering t rva = function_asked t (index_from 0 rva t.ranges)

-- an entry whose info is chained to none
abbrev pub unchained : FunctionEntry → Entry
unchained f = record { range = f.range; info = f.info; parents = [] }
