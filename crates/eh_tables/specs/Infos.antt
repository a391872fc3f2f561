-- Unwind infos: what one says, and what it must be. Each definition answers what it reads, or the
-- first refusal.
--
-- The main definition: `info`.
use Rattle.std.specs.Prelude.{◌≡◌, ◌≤◌, ℕ, ◌+◌, ◌*◌, ◌/◌, ◌%◌, Bool, true, false, not, ◌&&◌, ◌==◌, nat_le, nat_lt, if◌then◌else◌, List, [], length, take, drop, Option, Some, None, Result, Ok, Err, slice_index}
use denote.Ref.{Bor}
use Rattle.pe_image.specs.Field.{field}
use Rattle.pe_image.specs.Image.{Image, stored}
use Rattle.eh_tables.specs.declared.layout.TheConstants.{BEGIN_ADDRESS, END_ADDRESS, UNWIND_INFO_ADDRESS, RUNTIME_FUNCTION_SIZE, VERSION_AND_FLAGS, SIZE_OF_PROLOG, COUNT_OF_CODES, FRAME_REGISTER_AND_OFFSET, UNWIND_CODES, HANDLER_SIZE, SCOPE_COUNT_SIZE, SCOPE_RECORD_SIZE, UNWIND_VERSION, UNW_FLAG_CHAININFO}
use Rattle.eh_tables.specs.declared.code.UnwindCode.{UnwindCode}
use Rattle.eh_tables.specs.declared.range.RuntimeFunction.{RuntimeFunction}
use Rattle.eh_tables.specs.declared.scope.ScopeRecord.{ScopeRecord}
use Rattle.eh_tables.specs.declared.refusal.TableErr.{TableErr}
use Rattle.eh_tables.specs.declared.refusal.TableErr.TheVariants as refusals
use Rattle.seh_num.specs.Answers.{unless, or_refused, ◌>>=◌}
use Rattle.eh_tables.specs.Answer.{Table}
use Rattle.eh_tables.specs.Codes as slots
use Rattle.eh_tables.specs.Handler.{is_c_handler}
use Rattle.eh_tables.specs.Scopes as scopes

-- an entry of the function table, at a place
abbrev pub range_at : List ℕ → ℕ → RuntimeFunction
range_at bytes at =
    record {
      begin = field 4 bytes (at + BEGIN_ADDRESS);
      end = field 4 bytes (at + END_ADDRESS);
      unwind_info = field 4 bytes (at + UNWIND_INFO_ADDRESS);
    }

-- ---- the header, of four bytes

abbrev pub version : List ℕ → ℕ
version bytes = slice_index bytes VERSION_AND_FLAGS % 8

abbrev pub flags : List ℕ → ℕ
flags bytes = slice_index bytes VERSION_AND_FLAGS / 8

abbrev pub prologue_size : List ℕ → ℕ
prologue_size bytes = slice_index bytes SIZE_OF_PROLOG

-- how many slots there are
abbrev pub slot_count : List ℕ → ℕ
slot_count bytes = slice_index bytes COUNT_OF_CODES

-- the frame register's number, where 0 means none, and its distance from the base of the frame
abbrev pub frame_register : List ℕ → ℕ
frame_register bytes = slice_index bytes FRAME_REGISTER_AND_OFFSET % 16

abbrev pub is_framed : List ℕ → Bool
is_framed bytes = not (frame_register bytes == 0)

abbrev pub frame_offset : List ℕ → ℕ
frame_offset bytes = 16 * (slice_index bytes FRAME_REGISTER_AND_OFFSET / 16)

-- UNW_FLAG_EHANDLER, UNW_FLAG_UHANDLER, both, UNW_FLAG_CHAININFO, or none of them
abbrev pub are_flags : ℕ → Bool
are_flags f = nat_le f UNW_FLAG_CHAININFO

abbrev pub has_handler : List ℕ → Bool
has_handler bytes = nat_lt 0 (flags bytes) && nat_lt (flags bytes) UNW_FLAG_CHAININFO

abbrev pub is_chained : List ℕ → Bool
is_chained bytes = flags bytes == UNW_FLAG_CHAININFO

-- ---- the slots, and what follows them

abbrev pub slots_of : List ℕ → List ℕ
slots_of bytes = take (2 * slot_count bytes) (drop UNWIND_CODES bytes)

-- where they end, with the slot that makes their count even
abbrev pub slots_end : List ℕ → ℕ
slots_end bytes = UNWIND_CODES + 4 * ((slot_count bytes + 1) / 2)

-- a handler's address, an entry of the function table, or nothing
abbrev pub trailer_size : List ℕ → ℕ
trailer_size bytes =
    if has_handler bytes then HANDLER_SIZE
    else (if is_chained bytes then RUNTIME_FUNCTION_SIZE else 0)

abbrev pub handler_at : List ℕ → ℕ
handler_at bytes = field 4 bytes (slots_end bytes)

abbrev pub handler : List ℕ → Option ℕ
handler bytes = if has_handler bytes then Some (handler_at bytes) else None

abbrev pub parent : List ℕ → Option RuntimeFunction
parent bytes = if is_chained bytes then Some (range_at bytes (slots_end bytes)) else None

-- ---- what an info says

pub record Info : Type 0 where
  -- header and slots as they are stored, with the one that makes their count even
  pub bytes : List ℕ
  pub flags : ℕ
  pub prologue_size : ℕ
  pub frame_register : ℕ  -- 0 for none
  pub frame_offset : ℕ  -- in bytes
  pub codes : List UnwindCode
  pub handler : Option ℕ
  pub parent : Option RuntimeFunction
  pub has_c_handler : Bool
  pub scopes : List ScopeRecord  -- none where the handler isn't the C handler

-- by the bytes up to the trailer's end, and those of the scope records
abbrev pub info_of : List ℕ → Bool → List ℕ → Info
info_of bytes is_c rows = record {
  bytes = take (slots_end bytes) bytes;
  flags = flags bytes;
  prologue_size = prologue_size bytes;
  frame_register = frame_register bytes;
  frame_offset = frame_offset bytes;
  codes = slots.codes (is_framed bytes) 0 (slots_of bytes);
  handler = handler bytes;
  parent = parent bytes;
  has_c_handler = is_c;
  scopes = scopes.scope_records_in rows;
}

-- ---- what an info must be

-- it has all its parts
pub record HasParts (bytes : List ℕ) : Type 0 where
  pub known : flags bytes ≤ UNW_FLAG_CHAININFO
  pub size : length bytes ≡ slots_end bytes + trailer_size bytes

-- what the code answers, as a list
abbrev pub shown : {A : Type 0} → Result (Bor (List A)) TableErr → Table (List A)
shown (Ok bytes) = Ok bytes.now
shown (Err e) = Err e

-- header, slots and trailer
unfoldable pub stored_info : Image → ℕ → ℕ → Table (List ℕ)
stored_info image index rva = do
  _ ← unless (rva % 4 == 0) (refusals.Misaligned rva)
  head ← or_refused (stored image.sections rva UNWIND_CODES) (refusals.Truncated rva)
  _ ← unless (version head == UNWIND_VERSION) (refusals.Version index (version head))
  _ ← unless (are_flags (flags head)) (refusals.Flags index)
  or_refused (stored image.sections rva (slots_end head + trailer_size head))
      (refusals.Truncated rva)

-- the records of the scope table, which follows the handler's address: their count, and they
-- themselves
abbrev pub scope_records_at : Image → ℕ → ℕ → Table (List ℕ)
scope_records_at image rva at = do
  counted ← or_refused (stored image.sections rva (at + SCOPE_COUNT_SIZE)) (refusals.Truncated rva)
  all ← or_refused (stored image.sections rva
      (at + SCOPE_COUNT_SIZE + SCOPE_RECORD_SIZE * field 4 counted at)) (refusals.Truncated rva)
  Ok (drop (at + SCOPE_COUNT_SIZE) all)

abbrev pub scope_records_if : Table (List ℕ) → Bool → Table (List ℕ)
scope_records_if rows true = rows
scope_records_if rows false = Ok []

abbrev pub is_c : Image → List ℕ → Bool
is_c image bytes = has_handler bytes && is_c_handler image (handler_at bytes)

unfoldable pub stored_scope_records : Image → ℕ → List ℕ → Table (List ℕ)
stored_scope_records image rva bytes =
    scope_records_if (scope_records_at image rva (slots_end bytes + HANDLER_SIZE))
    (is_c image bytes)

-- The codes come before the chain, and the chain before the scope records; since a chained info has
-- no handler, its rows are none.
unfoldable pub info : Image → ℕ → ℕ → Table Info
info image index rva = do
  bytes ← stored_info image index rva
  rows ← stored_scope_records image rva bytes
  _ ← slots.checked index (is_framed bytes) 0 255 0 (slots_of bytes)
  _ ← scopes.checked index image.size 0 (scopes.scope_records_in rows)
  Ok (info_of bytes (is_c image bytes) rows)
