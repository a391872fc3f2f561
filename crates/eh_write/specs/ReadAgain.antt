-- What is written is read again as the same values, wherever it is in an image.
--
-- The main definition: `IsStoredAt`.
use Rattle.std.specs.Prelude.{◌≡◌, ℕ, ◌%◌, ◌^◌, ◌<◌, ◌≤◌, Bool, true, false, List, [], ◌∷◌, ◌++◌, length, map, Option, Some, None, Ok}
use Rattle.std.specs.List.{AllByRecursion}
use Rattle.pe_image.specs.Image.{Image, stored}
use Rattle.eh_tables.specs.declared.code.UnwindOperation.{UnwindOperation}
use Rattle.eh_tables.specs.declared.code.UnwindOperation.TheVariants.{Push, Allocate, SetFrame, Save, SaveVector, MachineFrame}
use Rattle.eh_tables.specs.declared.layout.TheConstants.{MOST_PARENTS}
use Rattle.eh_tables.specs.declared.range.RuntimeFunction.{RuntimeFunction}
use Rattle.eh_tables.specs.declared.scope.ScopeRecord.{ScopeRecord}
use Rattle.eh_write.specs.declared.unwind_info.Trailer.{Trailer}
use Rattle.eh_write.specs.declared.unwind_info.Trailer.TheVariants.{Nothing, Handler, Parent}
use Rattle.eh_write.specs.declared.unwind_info.UnwindInfo.{UnwindInfo}
use Rattle.seh_num.specs.Answers.{◌>>=◌}
use Rattle.eh_tables.specs.Handler.{is_c_handler}
use Rattle.eh_tables.specs.Infos.{Info, info}
use Rattle.eh_tables.specs.Scopes as scopes
use Rattle.eh_tables.specs.Tables.{Entry, directory, tables}
use Rattle.eh_write.specs.Written.{codes_bytes, padded, header, trailer_flags, unwind_bytes, scope_bytes, table_bytes, CanBeWritten}

-- these bytes are stored in an image from an address on
abbrev pub IsStoredAt : Image → ℕ → List ℕ → Type 0
IsStoredAt image rva bytes = stored image.sections rva (length bytes) ≡ Some bytes

-- ---- values of their types: each number of 32 bits is below 2 ^ 32

abbrev pub IsOperation : UnwindOperation → Type 0
IsOperation (Push r) = Unit {0}
IsOperation (Allocate n) = n < 2 ^ 32
IsOperation SetFrame = Unit {0}
IsOperation (Save r n) = n < 2 ^ 32
IsOperation (SaveVector r n) = n < 2 ^ 32
IsOperation (MachineFrame i) = Unit {0}

pub record IsRuntimeFunction (r : RuntimeFunction) : Type 0 where
  pub begin : r.begin < 2 ^ 32
  pub end : r.end < 2 ^ 32
  pub info : r.unwind_info < 2 ^ 32

pub record IsScopeRecord (r : ScopeRecord) : Type 0 where
  pub begin : r.begin < 2 ^ 32
  pub end : r.end < 2 ^ 32
  pub handler : r.handler_address < 2 ^ 32
  pub jump : r.jump_target < 2 ^ 32

abbrev pub HasTrailer : Trailer → Type 0
HasTrailer Nothing = Unit {0}
HasTrailer (Handler s u rva) = rva < 2 ^ 32
HasTrailer (Parent r) = IsRuntimeFunction r

pub record IsUnwindInfo (i : UnwindInfo) : Type 0 where
  pub operations : AllByRecursion (λ c. IsOperation c.operation) i.codes.items
  pub trailer : HasTrailer i.trailer

-- ---- unwind infos

abbrev pub handler_of : Trailer → Option ℕ
handler_of Nothing = None
handler_of (Handler s u rva) = Some rva
handler_of (Parent r) = None

abbrev pub parent_of : Trailer → Option RuntimeFunction
parent_of Nothing = None
parent_of (Handler s u rva) = None
parent_of (Parent r) = Some r

abbrev pub is_c : Image → Option ℕ → Bool
is_c image None = false
is_c image (Some rva) = is_c_handler image rva

abbrev pub has_c_handler : Image → UnwindInfo → Bool
has_c_handler image i = is_c image (handler_of i.trailer)

-- what an info says that was written, with the rows after it
abbrev pub info_written : UnwindInfo → Bool → List ScopeRecord → Info
info_written i is_c rows = record {
  bytes = header i (length (codes_bytes i.codes.items)) ++ padded (codes_bytes i.codes.items);
  flags = trailer_flags i.trailer;
  prologue_size = i.prologue_size;
  frame_register = i.frame_register;
  frame_offset = i.frame_offset;
  codes = i.codes.items;
  handler = handler_of i.trailer;
  parent = parent_of i.trailer;
  has_c_handler = is_c;
  scopes = rows;
}

-- without the C handler
abbrev pub InfoIsReadAgain : Type 0
InfoIsReadAgain =
    (image : Image) (index rva : ℕ) (i : UnwindInfo) → IsUnwindInfo i → CanBeWritten i → rva % 4 ≡ 0
    → has_c_handler image i ≡ false
    → IsStoredAt image rva (unwind_bytes i)
    → info image index rva ≡ Ok (info_written i false [])

-- with it and its scope table, where each row is a range of code in the image; else it is refused
-- for the first that isn't
abbrev pub ScopeRecordsAreReadAgain : Type 0
ScopeRecordsAreReadAgain =
    (image : Image) (index rva : ℕ) (i : UnwindInfo) (rows : List ScopeRecord) → IsUnwindInfo i
    → CanBeWritten i → AllByRecursion IsScopeRecord rows → length rows < 2 ^ 32 → rva % 4 ≡ 0
    → has_c_handler image i ≡ true
    → IsStoredAt image rva (unwind_bytes i ++ scope_bytes rows)
    → info image index rva ≡ (scopes.checked index image.size 0 rows >>= λ _. Ok
    (info_written i true rows))

-- ---- function tables

abbrev pub RangesAreReadAgain : Type 0
RangesAreReadAgain =
    (image : Image) (rs : List RuntimeFunction) → AllByRecursion IsRuntimeFunction rs
    → image.exceptions.rva % 4 ≡ 0 → image.exceptions.size ≡ length (table_bytes rs)
    → IsStoredAt image image.exceptions.rva (table_bytes rs)
    → directory image ≡ Ok rs

-- ---- whole function tables

-- an unwind info as it is written, and the records of its scope table
pub record WrittenInfo : Type 0 where
  pub info : UnwindInfo
  pub scopes : List ScopeRecord

-- an entry as it is written: its range, its own unwind info, and those that this is chained to, one
-- after another
pub record WrittenEntry : Type 0 where
  pub range : RuntimeFunction
  pub own : WrittenInfo
  pub parents : List WrittenInfo

-- with the C handler: the records are of code in the image, and follow the info
pub record HasScopeTable (image : Image) (rva : ℕ) (w : WrittenInfo) : Type 0 where
  pub records : AllByRecursion IsScopeRecord w.scopes
  pub count : length w.scopes < 2 ^ 32
  pub of_code : (index : ℕ) → scopes.checked index image.size 0 w.scopes ≡ Ok tt
  pub stored : IsStoredAt image rva (unwind_bytes w.info ++ scope_bytes w.scopes)

-- without it there is no scope table
pub record HasNoScopeTable (image : Image) (rva : ℕ) (w : WrittenInfo) : Type 0 where
  pub none : w.scopes ≡ []
  pub stored : IsStoredAt image rva (unwind_bytes w.info)

abbrev pub HasScopes : Image → ℕ → WrittenInfo → Bool → Type 0
HasScopes image rva w false = HasNoScopeTable image rva w
HasScopes image rva w true = HasScopeTable image rva w

-- the unwind info is stored at an address
pub record IsInfoWritten (image : Image) (rva : ℕ) (w : WrittenInfo) : Type 0 where
  pub info : IsUnwindInfo w.info
  pub can : CanBeWritten w.info
  pub aligned : rva % 4 ≡ 0
  pub stored : HasScopes image rva w (has_c_handler image w.info)

-- it is stored where the entry says that follows the codes of the info before
pub record IsParent (image : Image) (named : Option RuntimeFunction) (w : WrittenInfo) : Type 0
  where
    pub range : RuntimeFunction
    pub is : named ≡ Some range
    pub written : IsInfoWritten image range.unwind_info w

-- each info is chained to the next one, and the last to none
abbrev pub IsChainedTo : Image → Option RuntimeFunction → List WrittenInfo → Type 0
IsChainedTo image named [] = named ≡ None
IsChainedTo image named (w ∷ ws) =
    IsParent image named w × IsChainedTo image (parent_of w.info.trailer) ws

-- the own unwind info is stored where the range says, and its chain isn't too long
pub record IsEntryWritten (image : Image) (w : WrittenEntry) : Type 0 where
  pub own : IsInfoWritten image w.range.unwind_info w.own
  pub chain : IsChainedTo image (parent_of w.own.info.trailer) w.parents
  pub count : length w.parents ≤ MOST_PARENTS

-- no range is empty, or begins below the end of the one before
abbrev pub AreInOrder : ℕ → List WrittenEntry → Type 0
AreInOrder last [] = Unit {0}
AreInOrder last (w ∷ ws) =
    (last ≤ w.range.begin) × (w.range.begin < w.range.end) × AreInOrder w.range.end ws

-- what is read of it
abbrev pub info_read : Image → WrittenInfo → Info
info_read image w = info_written w.info (has_c_handler image w.info) w.scopes

abbrev pub as_read : Image → WrittenEntry → Entry
as_read image w = record {
  range = w.range;
  info = info_read image w.own;
  parents = map (info_read image) w.parents;
}

abbrev pub ranges_of : List WrittenEntry → List RuntimeFunction
ranges_of ws = map (λ w. w.range) ws

-- a whole function table, wherever it, its unwind infos and those of their chains are stored
abbrev pub TableIsReadAgain : Type 0
TableIsReadAgain =
    (image : Image) (ws : List WrittenEntry) → AllByRecursion IsRuntimeFunction (ranges_of ws)
    → image.exceptions.rva % 4 ≡ 0 → image.exceptions.size ≡ length (table_bytes (ranges_of ws))
    → IsStoredAt image image.exceptions.rva (table_bytes (ranges_of ws))
    → AllByRecursion (IsEntryWritten image) ws → AreInOrder 0 ws
    → tables image ≡ Ok (map (as_read image) ws)
