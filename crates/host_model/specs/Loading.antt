-- How an image is placed in memory, and the state that a run starts from (PE format, "Section
-- Table", "Import Address Table"; the stack, the arena, the services and their places are the
-- host's own).
--
-- The main definitions: `mapped`, `with_slots`, `start`, `load_refusal`.
use Rattle.std.specs.Prelude.{ℕ, ◌+◌, ◌-◌, ◌%◌, Bool, true, false, ◌&&◌, ◌||◌, ◌==◌, nat_lt, nat_le, List, [], ◌∷◌, replicate, position, ℤ, Option, Some, None, option_map, Result, Ok, Err, slice_index}
use Rattle.seh_num.specs.declared.width.Width.TheVariants.{W64}
use Rattle.seh_num.specs.Widths.{wrapped}
pub use Rattle.host_layout.specs.Ranges.{pages, in_stack, in_data_stack}
pub use Rattle.host_layout.specs.Services.{service_named}
use Rattle.flat_memory.specs.declared.protection.Protection.{Protection}
use Rattle.flat_memory.specs.declared.protection.TheConstants.{UNMAPPED}
use Rattle.flat_memory.specs.declared.protection.Rights.{Rights}
use Rattle.flat_memory.specs.declared.protection.Rights.TheVariants.{Nothing, Read, ReadWrite}
use Rattle.flat_memory.specs.Memory.{Memory, with_number, first_byte}
use Rattle.pe_image.specs.Image.{Section, Image, is_executable, is_writable, is_readable}
use Rattle.pe_image.specs.Imports.{Import, imports_of}
use Rattle.pe_image.specs.NameRows.{NameRow, names_of}
use Rattle.pe_image.specs.declared.name_table.NameErr.{NameErr}
use Rattle.eh_tables.specs.Answer.{Table}
use Rattle.eh_tables.specs.Tables.{tables}
use Rattle.x64_machine.specs.declared.cpu.Cpu.{Cpu}
use Rattle.host_layout.specs.declared.service.Service.{Service}
use Rattle.host_layout.specs.Services.{address_of}
use Rattle.host_layout.specs.declared.limit.TheConstants.{MOST_IMAGE, BASE_ALIGNMENT, LEAST_BASE, ADDRESSES_END}
use Rattle.host_layout.specs.declared.range.TheConstants.{FIRST_STACK}
use Rattle.x64_machine.specs.Effect.{State, state}
use Rattle.host_model.specs.declared.refusal.LoadErr.{LoadErr}
use Rattle.host_model.specs.declared.refusal.LoadErr.TheVariants as refusals

-- the address of a section's first byte
abbrev pub begins_at : ℕ → Section → ℕ
begins_at base s = base + s.address

-- a section is mapped to the end of its last page
abbrev pub covers : ℕ → ℕ → Section → Bool
covers base a s = nat_le (begins_at base s) a && nat_lt a (begins_at base s + pages s.size)

abbrev pub or_else : Option Section → Section → Bool → Option Section
or_else others s true = Some s
or_else others s false = others

-- the section at an address
abbrev pub section_of : ℕ → ℕ → List Section → Option Section
section_of base a [] = None
section_of base a (s ∷ ss) = or_else (section_of base a ss) s (covers base a s)

-- readable, writable
abbrev pub rights_of : Bool → Bool → Rights
rights_of read true = ReadWrite
rights_of true false = Read
rights_of false false = Nothing

-- the protection of a section's pages
abbrev pub section_mode : Section → Protection
section_mode s =
    record { rights = rights_of (is_readable s) (is_writable s); execute = is_executable s }

-- outside the image the stack and the data stack alone may be accessed; the arena's pages begin
-- with no rights
abbrev pub stack_mode : Bool → Protection
stack_mode true = record { rights = ReadWrite; execute = false }
stack_mode false = UNMAPPED

-- the protection at an address, in a section or outside
abbrev pub mode_in : Option Section → ℕ → Protection
mode_in (Some s) a = section_mode s
mode_in None a = stack_mode (in_stack a || in_data_stack a)

-- what the file stores of a section, and zeros after it; outside, what each run begins with
abbrev pub byte_in : ℕ → Option Section → ℕ → ℕ
byte_in base (Some s) a = slice_index s.raw (a - begins_at base s)
byte_in base None a = first_byte a

-- ---- the slots of imports

-- the address of a service is stored in eight bytes, the lowest first
abbrev pub with_address : (ℕ → ℕ) → ℕ → Option Service → ℕ → ℕ
with_address byte at None = byte
with_address byte at (Some s) = with_number byte 8 at (address_of s)

-- bytes with the address of what is imported in each slot, eight bytes from the lowest on, a later
-- slot over those before it (PE format, "Import Address Table"). `mapped` has them over the file's
-- bytes. A slot that no later one overlaps reads as the address of its service; without imports the
-- bytes are the file's.
abbrev pub with_slots : ℕ → (ℕ → ℕ) → List Import → ℕ → ℕ
with_slots base byte [] = byte
with_slots base byte (i ∷ is) =
    with_slots base (with_address byte (base + i.slot) (service_named i.name)) is

-- ---- the whole

-- the protection of an address of the loaded image
abbrev pub mode_at : Image → ℕ → Protection
mode_at image a = mode_in (section_of image.base a image.sections) a

-- the byte that the file stores for an address
abbrev pub stored_byte : Image → ℕ → ℕ
stored_byte image a = byte_in image.base (section_of image.base a image.sections) a

-- how an image is placed in memory. Each section is mapped from its address to the end of its last
-- page, with the file's bytes and zeros after them. It is readable where it may be read, written or
-- executed, and writable and executable by its own flags (PE format, "Section Flags"). The image's
-- imports are bound, and the headers aren't mapped (own). The stack is there too, and all its bytes
-- are 0 (own).
unfoldable pub mapped : Image → Memory
mapped image =
    record {
      protection = mode_at image;
      byte = with_slots image.base (stored_byte image) (imports_of image);
    }

-- RIP is the entry point, RCX the argument; RSP points to a return address of 0 near the stack's
-- top
abbrev pub first_cpu : ℕ → ℤ → Cpu
first_cpu entry arg = record {
  registers = 0 ∷ wrapped W64 arg ∷ 0 ∷ 0 ∷ FIRST_STACK ∷ replicate 11 0;
  rip = entry;
  flags = record { carry = false; zero = false; sign = false; overflow = false };
}

-- RIP is the entry point, RCX the argument, RSP 0x707FFFD8 with a return address of 0 there, all
-- else 0 (own)
unfoldable pub start : Image → ℤ → State
start image arg = state (first_cpu (image.base + image.entry) arg) (mapped image)

-- ---- what isn't loaded

-- a reason, where a test fails
abbrev pub reason_unless : Bool → LoadErr → Option LoadErr
reason_unless true e = None
reason_unless false e = Some e

-- the first reason of a list
abbrev pub first_of : List (Option LoadErr) → Option LoadErr
first_of [] = None
first_of (None ∷ others) = first_of others
first_of (Some e ∷ others) = Some e

-- the function table isn't read whole
abbrev pub of_tables : {A : Type 0} → Table A → Option LoadErr
of_tables (Ok entries) = None
of_tables (Err e) = Some (refusals.Table e)

-- the refusal of the function table
abbrev pub table_refusal : Image → Option LoadErr
table_refusal image = of_tables (tables image)

-- the base is aligned and above 4 GiB, the image at most 256 MiB and its end at most 2^47
abbrev pub has_place : Image → Bool
has_place image =
    (image.base % BASE_ALIGNMENT == 0) && nat_le LEAST_BASE image.base && nat_le image.size
    MOST_IMAGE && nat_le (image.base + image.size) ADDRESSES_END

-- the refusal of the base
abbrev pub place_refusal : Image → Option LoadErr
place_refusal image = reason_unless (has_place image) (refusals.Place image.base)

-- the first import that names none of the services
abbrev pub is_none : {A : Type 0} → Option A → Bool
is_none None = true
is_none (Some x) = false

abbrev pub first_unknown : List Import → Option ℕ
first_unknown imports = position (λ i. is_none (service_named i.name)) imports

-- the refusal of an import
abbrev pub import_refusal : Image → Option LoadErr
import_refusal image = option_map refusals.Import (first_unknown (imports_of image))

-- a section's page is executable
abbrev pub is_code : Option Section → Bool
is_code None = false
is_code (Some s) = is_executable s

-- the entry point is in an executable section
abbrev pub has_entry : Image → Bool
has_entry image = is_code (section_of 0 image.entry image.sections)

-- the refusal of the entry point
abbrev pub entry_refusal : Image → Option LoadErr
entry_refusal image = reason_unless (has_entry image) (refusals.Entry image.entry)

-- the table of names isn't read whole
abbrev pub of_names : Result (List NameRow) NameErr → Option LoadErr
of_names (Ok rows) = None
of_names (Err e) = Some (refusals.Names e.row)

-- the refusal of the table of names
abbrev pub names_refusal : Image → Option LoadErr
names_refusal image = of_names (names_of image)

-- after the function table's
abbrev pub later_refusal : Image → Option LoadErr
later_refusal image =
    first_of (place_refusal image ∷ import_refusal image ∷ entry_refusal image
    ∷ names_refusal image ∷ [])

-- the first that holds of Table, Place, Import, Entry and Names, in this order (own). Table: the
-- function table isn't read whole. Place: the base isn't a multiple of 65,536 or is below 4 GiB,
-- the size is above 256 MiB, or the end is above 2^47. Import, with the index of the first import
-- that names no service. Entry: the entry point's page isn't executable. Names, with the index of
-- the first row of the table of names that isn't right.
abbrev pub load_refusal : Image → Option LoadErr
load_refusal image =
    first_of (table_refusal image ∷ place_refusal image ∷ import_refusal image ∷ entry_refusal image
    ∷ names_refusal image ∷ [])
