-- Entries whose unwind infos have version 1 or 2.
--
-- The main definitions: `entry`, `entry_covering`, `ReadsVersion1Alike`.
use Rattle.std.specs.Prelude.{◌≡◌, ℕ, zero, suc, nat_lt, nat_le, List, [], slice_index_or, Option, Some, None, Result, Ok, Err}
use Rattle.seh_num.specs.Answers.{unless, prepend, ◌>>=◌}
use Rattle.pe_image.specs.Image.{Image}
use Rattle.eh_tables.specs.declared.layout.TheConstants.{MOST_PARENTS}
use Rattle.eh_tables.specs.declared.range.RuntimeFunction.{RuntimeFunction}
use Rattle.eh_tables.specs.declared.refusal.TableErr.{TableErr}
use Rattle.eh_tables.specs.declared.refusal.TableErr.TheVariants as refusals
use Rattle.eh_tables.specs.Answer.{Table}
use Rattle.eh_tables.specs.Covering.{index_from}
use Rattle.eh_tables.specs.Infos.{Info}
use Rattle.eh_tables.specs.EitherInfos.{info}
use Rattle.eh_tables.specs.Tables as tables
use Rattle.eh_tables.specs.Tables.{Entry, Tables, end_before, no_range}

-- the infos that one is chained to, of at most so many
abbrev pub parents : ℕ → Image → ℕ → Option RuntimeFunction → Table (List Info)
parents zero image index None = Ok []
parents zero image index (Some r) = Err (refusals.ChainLong index)
parents (suc n) image index None = Ok []
parents (suc n) image index (Some r) = do
  i ← info image index r.unwind_info
  prepend i (parents n image index i.parent)

-- what the code answers, with what it has appended
abbrev pub appended : Result Unit TableErr → List Info → Table (List Info)
appended (Ok x) is = Ok is
appended (Err e) is = Err e

-- after an entry that ends there
unfoldable pub entry : Image → ℕ → ℕ → RuntimeFunction → Table Entry
entry image index last r = do
  _ ← unless (nat_lt r.begin r.end) (refusals.EmptyRange index)
  _ ← unless (nat_le last r.begin) (refusals.Unsorted index)
  i ← info image index r.unwind_info
  above ← parents MOST_PARENTS image index i.parent
  Ok (record { range = r; info = i; parents = above })

abbrev pub entry_at : Tables → ℕ → Table Entry
entry_at t index =
    entry t.image index (end_before t.ranges index) (slice_index_or t.ranges index no_range)

-- the entry whose range covers an address in a table whose ranges ascend; no other is read
abbrev pub entry_asked : Tables → Option ℕ → Table (Option Entry)
entry_asked t None = Ok None
entry_asked t (Some index) = entry_at t index >>= λ e. Ok (Some e)

abbrev pub entry_covering : Tables → ℕ → Table (Option Entry)
entry_covering t rva = entry_asked t (index_from 0 rva t.ranges)

-- ---- an entry of version 1 is read as where the second isn't

abbrev pub ReadsVersion1Alike : Type 0
ReadsVersion1Alike =
    (t : Tables) (index : ℕ) (e : Entry) → tables.entry_at t index ≡ Ok e
    → entry_at t index ≡ Ok e
