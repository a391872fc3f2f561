-- The tables of `.rdata` by which a written image imports the services of its host (PE format, "The
-- .idata Section"): one library, whose names have no hints. All addresses are relative to the image
-- base.
--
-- The main definitions: `import_tables`, `place_of`, `slot_of`, `tables_size`.
use Rattle.std.specs.Prelude.{ℕ, suc, ◌+◌, ◌*◌, ◌%◌, ◌==◌, if◌then◌else◌, List, [], ◌∷◌, ◌++◌, length}
use Rattle.std.specs.List.{flat_map}
use Rattle.host_layout.specs.declared.imported.ImportedService.{ImportedService}
use Rattle.host_layout.specs.declared.name.TheConstants.{LIBRARY}
pub use Rattle.host_layout.specs.Imported.{name_of, number_of, services}
use Rattle.pe_image.specs.declared.layout.TheConstants.{DESCRIPTOR_SIZE, HINT_SIZE, LOOKUP_ENTRY_SIZE}
use Rattle.pe_write.specs.declared.import_tables.TheConstants.{DESCRIPTORS_SIZE, UNREAD_FIELDS_SIZE}
use Rattle.pe_image.specs.Imports.{Import}
use Rattle.pe_image.specs.Numbers.{u32, u64, zeros}

-- ---- how many bytes the tables of so many services take

-- the place of a service among those that are imported, and how many they are where it isn't there
abbrev pub place_of : List ImportedService → ImportedService → ℕ
place_of [] s = 0
place_of (t ∷ ts) s = if number_of t == number_of s then 0 else suc (place_of ts s)

-- the lookup table, or the slots: an entry for each service, and one of 0
abbrev pub addresses_size : List ImportedService → ℕ
addresses_size ss = LOOKUP_ENTRY_SIZE * (length ss + 1)

-- a name with its hint, filled up to an even length
abbrev pub hint_name_size : ImportedService → ℕ
hint_name_size s = HINT_SIZE + length (name_of s) + 1 + (length (name_of s) + 1) % 2

abbrev pub names_size : List ImportedService → ℕ
names_size [] = 0
names_size (s ∷ ss) = hint_name_size s + names_size ss

-- ---- how far each table lies from the front of `.rdata`

abbrev pub slots_offset : List ImportedService → ℕ
slots_offset ss = DESCRIPTORS_SIZE + addresses_size ss

abbrev pub names_offset : List ImportedService → ℕ
names_offset ss = slots_offset ss + addresses_size ss

abbrev pub library_offset : List ImportedService → ℕ
library_offset ss = names_offset ss + names_size ss

-- all of them, with the library's name and the 0 that ends it
abbrev pub tables_size : List ImportedService → ℕ
tables_size ss = library_offset ss + (length LIBRARY.now + 1)

-- the slot of a service
abbrev pub slot_of : List ImportedService → ImportedService → ℕ
slot_of ss s = slots_offset ss + LOOKUP_ENTRY_SIZE * place_of ss s

-- ---- where each table lies in `.rdata`, whose beginning is at an address

abbrev pub lookups_at : ℕ → ℕ
lookups_at at = at + DESCRIPTORS_SIZE

abbrev pub slots_at : List ImportedService → ℕ → ℕ
slots_at ss at = at + slots_offset ss

abbrev pub names_at : List ImportedService → ℕ → ℕ
names_at ss at = at + names_offset ss

abbrev pub library_at : List ImportedService → ℕ → ℕ
library_at ss at = at + library_offset ss

-- ---- the tables

-- a hint of 0, the name and the 0 that ends it, filled up to an even length
unfoldable pub hint_name : ImportedService → List ℕ
hint_name s = zeros HINT_SIZE ++ name_of s ++ zeros (1 + (length (name_of s) + 1) % 2)

-- the address of each name, of which the first is there, and 0
abbrev pub addresses : ℕ → List ImportedService → List ℕ
addresses at [] = u64 0
addresses at (s ∷ ss) = u64 at ++ addresses (at + hint_name_size s) ss

unfoldable pub descriptor : List ImportedService → ℕ → List ℕ
descriptor ss at =
    u32 (lookups_at at)
    ++ zeros UNREAD_FIELDS_SIZE  -- TimeDateStamp, ForwarderChain
    ++ u32 (library_at ss at)
    ++ u32 (slots_at ss at)

-- the tables of `.rdata` at an address, of the services that a program imports. They are the
-- descriptor of the library and one of zeros, the lookup table and the slots, the names, and the
-- library's name (PE format, "The .idata Section"). The slots hold what the lookup
-- table holds, until they are bound.
unfoldable pub import_tables : List ImportedService → ℕ → List ℕ
import_tables ss at =
    descriptor ss at
    ++ zeros DESCRIPTOR_SIZE
    ++ addresses (names_at ss at) ss
    ++ addresses (names_at ss at) ss
    ++ flat_map hint_name ss
    ++ LIBRARY.now
    ++ zeros 1

-- ---- what is read of them

-- each name with its slot, of which the first is there
abbrev pub imported : ℕ → List ImportedService → List Import
imported slot [] = []
imported slot (s ∷ ss) =
    record { name = name_of s; slot = slot } ∷ imported (slot + LOOKUP_ENTRY_SIZE) ss
