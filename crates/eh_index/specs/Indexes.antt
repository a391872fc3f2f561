-- An index of a function table, and what a look-up finds by any index.
--
-- The main definitions: `IsIndexOf`, `IsRowFor`.
use Rattle.std.specs.Prelude.{◌≤◌, ◌<◌, ℕ, ◌+◌, ◌/◌, ◌^◌, List, length, slice_index, slice_index_or}
use Rattle.eh_tables.specs.declared.range.RuntimeFunction.{RuntimeFunction}
use Rattle.eh_tables.specs.Tables.{no_range}

-- so many entries end at or below an address
pub record EndBy (rs : List RuntimeFunction) (count at : ℕ) : Type 0 where
  pub ends : (j : ℕ) → j < count → (slice_index_or rs j no_range).end ≤ at

-- for addresses that are alike but for so many low bits, where a search may begin, and the last
-- entry that it has to look at: each entry before the first number ends at or below the address,
-- and the entry of the next number ends above it
pub record IsIndexOf (rs : List RuntimeFunction) (shift : ℕ) (first : List ℕ) : Type 0 where
  pub below : (rva j : ℕ) → rva / 2 ^ shift < length first
      → j < slice_index first (rva / 2 ^ shift) → (slice_index_or rs j no_range).end ≤ rva
  pub above : (rva : ℕ) → rva / 2 ^ shift + 1 < length first
      → slice_index first (rva / 2 ^ shift + 1) < length rs
      → rva < (slice_index_or rs (slice_index first (rva / 2 ^ shift + 1)) no_range).end

-- a number of an index: that of the first entry that ends above an address
pub record IsFirst (rs : List RuntimeFunction) (at index : ℕ) : Type 0 where
  pub below : EndBy rs index at
  pub above : index < length rs → at < (slice_index_or rs index no_range).end

-- an entry that covers an address
pub record IsRowFor (rva : ℕ) (rs : List RuntimeFunction) (index : ℕ) : Type 0 where
  pub within : index < length rs
  pub begin : (slice_index_or rs index no_range).begin ≤ rva
  pub end : rva < (slice_index_or rs index no_range).end
