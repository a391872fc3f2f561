-- Unwind infos of version 1 or 2. Version 2 lists epilogues, in slots before those of its codes,
-- with operation 6 (UWOP_EPILOG in the published headers; no page of the Microsoft x64 ABI has it).
--
-- The main definitions: `listed`, `info`.
use Rattle.std.specs.Prelude.{ℕ, ◌+◌, ◌*◌, ◌%◌, Bool, true, ◌==◌, ◌&&◌, ◌||◌, if◌then◌else◌, List, [], ◌∷◌, take, drop, Ok}
use Rattle.seh_num.specs.Answers.{unless, or_refused, ◌>>=◌}
use Rattle.pe_image.specs.Image.{Image, stored}
use Rattle.eh_tables.specs.declared.layout.TheConstants.{UNWIND_CODES, UNWIND_VERSION, UNWIND_VERSION_2, UWOP_EPILOG}
use Rattle.eh_tables.specs.declared.refusal.TableErr.TheVariants as refusals
use Rattle.eh_tables.specs.Answer.{Table}
use Rattle.eh_tables.specs.Codes as slots
use Rattle.eh_tables.specs.Infos as infos
use Rattle.eh_tables.specs.Infos.{Info, version, flags, is_framed, are_flags, slots_of, slots_end, trailer_size, stored_scope_records, is_c}
use Rattle.eh_tables.specs.Scopes as scopes

-- ---- the slots of epilogues, and those of codes

-- a slot's second byte
abbrev pub is_epilogue : ℕ → Bool
is_epilogue op = op % 16 == UWOP_EPILOG

-- how many slots of epilogues a list begins with
abbrev pub leading : List ℕ → ℕ
leading [] = 0
leading (a ∷ []) = 0
leading (a ∷ b ∷ rest) = if is_epilogue b then 1 + leading rest else 0

-- how many there are in an info; version 1 has none
abbrev pub listed : List ℕ → ℕ
listed bytes = if version bytes == UNWIND_VERSION_2 then leading (slots_of bytes) else 0

abbrev pub epilogue_slots : List ℕ → List ℕ
epilogue_slots bytes = take (2 * listed bytes) (slots_of bytes)

abbrev pub code_slots : List ℕ → List ℕ
code_slots bytes = drop (2 * listed bytes) (slots_of bytes)

-- ---- an info

-- by its bytes up to the trailer's end, and those of the scope records
abbrev pub info_of : List ℕ → Bool → List ℕ → Info
info_of bytes c rows =
    record (infos.info_of bytes c rows) {
      codes = slots.codes (is_framed bytes) 0 (code_slots bytes);
    }

-- version 1, and where the second is read that too
abbrev pub is_read : Bool → ℕ → Bool
is_read second v = (second && (v == UNWIND_VERSION_2)) || (v == UNWIND_VERSION)

-- header, slots and trailer
unfoldable pub stored_info : Bool → Image → ℕ → ℕ → Table (List ℕ)
stored_info second image index rva = do
  _ ← unless (rva % 4 == 0) (refusals.Misaligned rva)
  head ← or_refused (stored image.sections rva UNWIND_CODES) (refusals.Truncated rva)
  _ ← unless (is_read second (version head)) (refusals.Version index (version head))
  _ ← unless (are_flags (flags head)) (refusals.Flags index)
  or_refused (stored image.sections rva (slots_end head + trailer_size head))
      (refusals.Truncated rva)

-- an operation 6 after a code is refused as one that isn't known
abbrev pub codes_checked : ℕ → List ℕ → Table Unit
codes_checked index bytes =
    slots.checked index (is_framed bytes) (listed bytes) 255 0 (code_slots bytes)

unfoldable pub info : Image → ℕ → ℕ → Table Info
info image index rva = do
  bytes ← stored_info true image index rva
  rows ← stored_scope_records image rva bytes
  _ ← codes_checked index bytes
  _ ← scopes.checked index image.size 0 (scopes.scope_records_in rows)
  Ok (info_of bytes (is_c image bytes) rows)
