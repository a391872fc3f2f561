-- What is known of unwind infos, so that they aren't checked again: an info that can be read for
-- one entry can be read for each.
use Rattle.std.specs.Prelude.{◌≡◌, ℕ, ◌+◌, Bool, true, false, nat_lt, nat_le, List, length, Some, Ok, Err}
use Rattle.std.specs.Ordering.{nat_cmp}
use Rattle.std.specs.BTreeMap.{BTreeMap, get}
use Rattle.pe_image.specs.Image.{Image}
use Rattle.eh_tables.specs.declared.layout.TheConstants.{MOST_PARENTS}
use Rattle.eh_tables.specs.declared.range.RuntimeFunction.{RuntimeFunction}
use Rattle.eh_tables.specs.declared.refusal.TableErr.TheVariants as refusals
use Rattle.seh_num.specs.Answers.{unless, ◌>>=◌}
use Rattle.eh_tables.specs.Answer.{Table}
use Rattle.eh_tables.specs.Codes as slots
use Rattle.eh_tables.specs.Infos.{Info, info_of, is_c, is_framed, slots_of, stored_info, stored_scope_records}
use Rattle.eh_tables.specs.Tables.{parents}

-- ---- the checks in parts

-- whether there is an answer, without it
abbrev pub only : {A : Type 0} → Table A → Table Unit
only (Ok x) = Ok tt
only (Err e) = Err e

-- the codes of an info
abbrev pub codes_checked : ℕ → List ℕ → Table Unit
codes_checked index bytes = slots.checked index (is_framed bytes) 0 255 0 (slots_of bytes)

-- an info of which all but the scope records is checked
unfoldable pub info_before_records : Image → ℕ → ℕ → Table Info
info_before_records image index rva = do
  bytes ← stored_info image index rva
  rows ← stored_scope_records image rva bytes
  _ ← codes_checked index bytes
  Ok (info_of bytes (is_c image bytes) rows)

-- the range of an entry, after one that ends there
abbrev pub range_checked : ℕ → ℕ → RuntimeFunction → Table Unit
range_checked index last r = do
  _ ← unless (nat_lt r.begin r.end) (refusals.EmptyRange index)
  unless (nat_le last r.begin) (refusals.Unsorted index)

-- ---- chains

-- how many infos a chain has
abbrev pub counted : Table (List Info) → Table ℕ
counted (Ok is) = Ok (length is)
counted (Err e) = Err e

abbrev pub if_within : ℕ → ℕ → Bool → Table ℕ
if_within index n true = Ok n
if_within index n false = Err (refusals.ChainLong index)

-- a chain of n infos where there is room for so many
abbrev pub within : ℕ → ℕ → ℕ → Table ℕ
within index n room = if_within index n (nat_le n room)

-- an entry of which the info alone is named
abbrev pub with_info : ℕ → RuntimeFunction
with_info rva = record { begin = 0; end = 0; unwind_info = rva }

-- the infos from an address on are so many, and can be read
pub record IsChain (image : Image) (rva n : ℕ) : Type 0 where
  pub infos : List Info
  pub read : parents (1 + MOST_PARENTS) image 0 (Some (with_info rva)) ≡ Ok infos
  pub len : length infos ≡ n

-- each address that is kept, with the length of its chain
abbrev pub AreKnown : Image → BTreeMap ℕ ℕ → Type 0
AreKnown image known = (rva n : ℕ) → get nat_cmp known rva ≡ Some n → IsChain image rva n
