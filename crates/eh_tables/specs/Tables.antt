-- Function tables, entry by entry. Each definition answers what it reads, or the first refusal.
--
-- The forms are those of the Microsoft x64 ABI, "Exception handling": `RUNTIME_FUNCTION`,
-- `UNWIND_INFO`, `UNWIND_CODE`.
--
-- `entry`, `entry_at`: an entry with its info and its parents, or its first refusal, in the order
-- of the checks.
--
-- The main definitions: `directory`, `parents`, `TablesAreWhole`, `holding`.
use Rattle.std.specs.Prelude.{◌≡◌, ℕ, zero, suc, ◌+◌, ◌/◌, ◌%◌, Bool, true, false, ◌&&◌, ◌==◌, nat_le, nat_lt, List, [], ◌∷◌, length, drop, slice_index_or, Option, Some, None, Result, Ok, Err}
use Rattle.std.specs.Result.{result_ok}
use Rattle.arrayvec.specs.ArrayVec.{ArrayVec}
use Rattle.pe_image.specs.declared.directory.DataDirectory.{DataDirectory}
use Rattle.pe_image.specs.Image.{Image, stored}
use Rattle.eh_tables.specs.declared.layout.TheConstants.{MOST_PARENTS, RUNTIME_FUNCTION_SIZE}
use Rattle.eh_tables.specs.declared.range.RuntimeFunction.{RuntimeFunction}
use Rattle.eh_tables.specs.declared.refusal.TableErr.{TableErr}
use Rattle.eh_tables.specs.declared.refusal.TableErr.TheVariants as refusals
use Rattle.seh_num.specs.Answers.{unless, or_refused, prepend, ◌>>=◌}
use Rattle.eh_tables.specs.Answer.{Table}
use Rattle.eh_tables.specs.Infos.{Info, info, range_at}

-- ---- an entry

-- with its own info, and those that this is chained to, one after another
pub record Entry : Type 0 where
  pub range : RuntimeFunction
  pub info : Info
  pub parents : List Info

-- those that it is chained to, at most 31
abbrev pub parents : ℕ → Image → ℕ → Option RuntimeFunction → Table (List Info)
parents zero image index None = Ok []
parents zero image index (Some r) = Err (refusals.ChainLong index)
parents (suc n) image index None = Ok []
parents (suc n) image index (Some r) = do
  i ← info image index r.unwind_info
  prepend i (parents n image index i.parent)

-- what the code answers, as a list
abbrev pub listed : {A : Type 0} → Result (ArrayVec A) TableErr → Table (List A)
listed (Ok v) = Ok v.items
listed (Err e) = Err e

-- after an entry that ends there
unfoldable pub entry : Image → ℕ → ℕ → RuntimeFunction → Table Entry
entry image index last r = do
  _ ← unless (nat_lt r.begin r.end) (refusals.EmptyRange index)
  _ ← unless (nat_le last r.begin) (refusals.Unsorted index)
  i ← info image index r.unwind_info
  above ← parents MOST_PARENTS image index i.parent
  Ok (record { range = r; info = i; parents = above })

-- ---- the directory

-- so many entries
abbrev pub ranges : ℕ → List ℕ → List RuntimeFunction
ranges zero bytes = []
ranges (suc n) bytes = range_at bytes 0 ∷ ranges n (drop RUNTIME_FUNCTION_SIZE bytes)

abbrev pub ranges_in : List ℕ → List RuntimeFunction
ranges_in bytes = ranges (length bytes / RUNTIME_FUNCTION_SIZE) bytes

-- a directory of size 0 is none
abbrev pub unless_none : Table (List RuntimeFunction) → Bool → Table (List RuntimeFunction)
unless_none others true = Ok []
unless_none others false = others

abbrev pub stored_ranges : Image → DataDirectory → Table (List RuntimeFunction)
stored_ranges image d = do
  _ ← unless (d.rva % 4 == 0) (refusals.Misaligned d.rva)
  bytes ← or_refused (stored image.sections d.rva d.size) (refusals.Truncated d.rva)
  _ ← unless (d.size % RUNTIME_FUNCTION_SIZE == 0) (refusals.Truncated d.rva)
  Ok (ranges_in bytes)

-- the ranges of the function table: none where its size is 0; else it is 4-aligned, stored whole,
-- and its size is a multiple of 12
unfoldable pub directory : Image → Table (List RuntimeFunction)
directory image = unless_none (stored_ranges image image.exceptions) (image.exceptions.size == 0)

-- ---- the tables of an image

pub record Tables : Type 0 where
  pub image : Image
  pub ranges : List RuntimeFunction

abbrev pub no_range : RuntimeFunction
no_range = record { begin = 0; end = 0; unwind_info = 0 }

-- where the entry before an index ends
abbrev pub end_before : List RuntimeFunction → ℕ → ℕ
end_before rs zero = 0
end_before rs (suc k) = (slice_index_or rs k no_range).end

abbrev pub entry_at : Tables → ℕ → Table Entry
entry_at t index =
    entry t.image index (end_before t.ranges index) (slice_index_or t.ranges index no_range)

-- from an index on
abbrev pub entries : Image → ℕ → ℕ → List RuntimeFunction → Table (List Entry)
entries image index last [] = Ok []
entries image index last (r ∷ rs) = do
  e ← entry image index last r
  prepend e (entries image (index + 1) r.end rs)

abbrev pub all_entries : Tables → Table (List Entry)
all_entries t = entries t.image 0 0 t.ranges

-- directory and entries
abbrev pub tables : Image → Table (List Entry)
tables image = do
  rs ← directory image
  entries image 0 0 rs

-- ---- tables that were read whole

abbrev pub or_none : Table (List Entry) → List Entry
or_none (Ok es) = es
or_none (Err e) = []

abbrev pub entries_of : Tables → List Entry
entries_of t = or_none (all_entries t)

-- no entry of a table is refused
pub record TablesAreWhole (t : Tables) : Type 0 where
  pub whole : all_entries t ≡ Ok (entries_of t)

-- the entry whose range covers an address
abbrev pub covers_address : ℕ → RuntimeFunction → Bool
covers_address rva r = nat_le r.begin rva && nat_lt rva r.end

abbrev pub entry_or : Option Entry → Entry → Bool → Option Entry
entry_or others e true = Some e
entry_or others e false = others

-- the entry whose range holds the address
abbrev pub holding : ℕ → List Entry → Option Entry
holding rva [] = None
holding rva (e ∷ es) = entry_or (holding rva es) e (covers_address rva e.range)

-- the entry of an index that a search found
abbrev pub entry_found : Tables → Option ℕ → Option Entry
entry_found t None = None
entry_found t (Some index) = result_ok (entry_at t index)

-- whether none is refused
abbrev pub passed : Table (List Entry) → Table Unit
passed (Ok es) = Ok tt
passed (Err e) = Err e

abbrev pub checked : Tables → Table Unit
checked t = passed (all_entries t)
