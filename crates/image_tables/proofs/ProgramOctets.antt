-- The bytes of the image of a program are octets, where those of its parts are.
use Rattle.std.proofs.Common.{◌≡◌, ℕ, ◌+◌, ◌%◌, Bool, true, ltb, List, [], ◌∷◌, ◌++◌, length, refl}
use Rattle.std.specs.Prelude.{◌&&◌}
use Rattle.std.specs.List.{flat_map, AllByRecursion}
use Rattle.std.proofs.lemmas.Bool.{ltb-true, and_parts}
use Rattle.host_layout.specs.declared.imported.ImportedService.{ImportedService}
use Rattle.host_layout.specs.declared.imported.ImportedService.TheVariants.{AddVectored, RaiseException, RemoveVectored, CSpecificHandler, LocalUnwind, Protect, Put, Walk}
use Rattle.host_layout.specs.declared.name.TheConstants.{LIBRARY}
use Rattle.pe_image.specs.Numbers.{u32, u64, zeros}
use Rattle.pe_image.specs.declared.layout.TheConstants.{DESCRIPTOR_SIZE, HINT_SIZE, SEHNAME_NAME}
use Rattle.pe_write.specs.declared.header.TheConstants.{DATA_NAME, TEXT_NAME, RDATA_NAME, XDATA_NAME, PDATA_NAME}
use Rattle.pe_write.specs.declared.import_tables.TheConstants.{UNREAD_FIELDS_SIZE}
use Rattle.pe_write.specs.ImportTables.{name_of, lookups_at, slots_at, names_at, library_at, hint_name, hint_name_size, addresses, descriptor, import_tables}
use Rattle.pe_write.specs.NameTable.{NameRow}
use Rattle.pe_write.specs.Program.{ImageContents, sizes_of, rdata_at, names_section, if_named, parts_of}
use Rattle.pe_write.specs.Program as programs
use Rattle.pe_write.specs.Written.{SectionParts, written}
use Rattle.image_tables.specs.OctetLaws.{AreOctets}
use Rattle.image_tables.proofs.Octets.{joined, mapped, four_bytes, eight_bytes, zero_bytes}
use Rattle.image_tables.proofs.WrittenOctets.{HasOctets, written_octets}
use Rattle.image_tables.proofs.NameOctets.{HasOctetName, name_table_octets}

-- ---- constants

all_below : List ℕ → Bool
all_below [] = true
all_below (b ∷ bytes) = ltb b 256 && all_below bytes

by_test : (bytes : List ℕ) → all_below bytes ≡ true → AreOctets bytes
unfolding all_below
by_test [] h = tt
by_test (b ∷ bytes) h =
    let both = and_parts (ltb b 256) (all_below bytes) h in
    (ltb-true b 256 both.0, by_test bytes both.1)

name_octets : (s : ImportedService) → AreOctets (name_of s)
unfolding all_below
name_octets AddVectored = by_test (name_of AddVectored) refl
name_octets RaiseException = by_test (name_of RaiseException) refl
name_octets RemoveVectored = by_test (name_of RemoveVectored) refl
name_octets CSpecificHandler = by_test (name_of CSpecificHandler) refl
name_octets LocalUnwind = by_test (name_of LocalUnwind) refl
name_octets Protect = by_test (name_of Protect) refl
name_octets Put = by_test (name_of Put) refl
name_octets Walk = by_test (name_of Walk) refl

-- ---- the import tables

hint_octets : (s : ImportedService) → AreOctets (hint_name s)
unfolding hint_name
hint_octets s =
    joined (zeros HINT_SIZE ++ name_of s) (zeros (1 + (length (name_of s) + 1) % 2))
    (joined (zeros HINT_SIZE) (name_of s)
    (zero_bytes HINT_SIZE)
    (name_octets s))
    (zero_bytes (1 + (length (name_of s) + 1) % 2))

descriptor_octets : (ss : List ImportedService) (at : ℕ) → AreOctets (descriptor ss at)
unfolding descriptor
descriptor_octets ss at =
    joined (u32 (lookups_at at) ++ zeros UNREAD_FIELDS_SIZE ++ u32 (library_at ss at))
    (u32 (slots_at ss at))
    (joined (u32 (lookups_at at) ++ zeros UNREAD_FIELDS_SIZE) (u32 (library_at ss at))
    (joined (u32 (lookups_at at)) (zeros UNREAD_FIELDS_SIZE)
    (four_bytes (lookups_at at))
    (zero_bytes UNREAD_FIELDS_SIZE))
    (four_bytes (library_at ss at)))
    (four_bytes (slots_at ss at))

addresses_octets : (at : ℕ) (ss : List ImportedService) → AreOctets (addresses at ss)
addresses_octets at [] = eight_bytes 0
addresses_octets at (s ∷ ss) = joined (u64 at) (addresses (at + hint_name_size s) ss)
    (eight_bytes at) (addresses_octets (at + hint_name_size s) ss)

imports_octets : (ss : List ImportedService) (at : ℕ) → AreOctets (import_tables ss at)
unfolding import_tables all_below
imports_octets ss at =
    joined (descriptor ss at ++ zeros DESCRIPTOR_SIZE ++ addresses (names_at ss at) ss
    ++ addresses (names_at ss at) ss ++ flat_map hint_name ss ++ LIBRARY.now) (zeros 1)
    (joined (descriptor ss at ++ zeros DESCRIPTOR_SIZE ++ addresses (names_at ss at) ss
    ++ addresses (names_at ss at) ss ++ flat_map hint_name ss) (LIBRARY.now)
    (joined (descriptor ss at ++ zeros DESCRIPTOR_SIZE ++ addresses (names_at ss at) ss
    ++ addresses (names_at ss at) ss) (flat_map hint_name ss)
    (joined (descriptor ss at ++ zeros DESCRIPTOR_SIZE ++ addresses (names_at ss at) ss)
    (addresses (names_at ss at) ss)
    (joined (descriptor ss at ++ zeros DESCRIPTOR_SIZE) (addresses (names_at ss at) ss)
    (joined (descriptor ss at) (zeros DESCRIPTOR_SIZE)
    (descriptor_octets ss at)
    (zero_bytes DESCRIPTOR_SIZE))
    (addresses_octets (names_at ss at) ss))
    (addresses_octets (names_at ss at) ss))
    (mapped hint_name ss hint_octets))
    (by_test LIBRARY.now refl))
    (zero_bytes 1)

-- ---- the image

if_named_octets : (rows : List NameRow) (s : SectionParts) → HasOctets s
    → AllByRecursion HasOctets (if_named rows s)
if_named_octets [] s h = tt
if_named_octets (r ∷ rs) s h = (h, tt)

pub program_octets : (p : ImageContents) → AreOctets p.data_bytes → AreOctets p.text
    → AreOctets p.xdata → AreOctets p.pdata → AllByRecursion HasOctetName p.names
    → AreOctets (written (parts_of p))
unfolding all_below
program_octets p globals text xdata pdata names =
    written_octets (parts_of p) (
      record { name = by_test DATA_NAME refl; bytes = globals },
      (
        record { name = by_test TEXT_NAME refl; bytes = text },
        (
          record {
            name = by_test RDATA_NAME refl;
            bytes = imports_octets p.imports (rdata_at (sizes_of p));
          },
          (
            record { name = by_test XDATA_NAME refl; bytes = xdata },
            (
              record { name = by_test PDATA_NAME refl; bytes = pdata },
              if_named_octets p.names (names_section p) (record {
                name = by_test SEHNAME_NAME refl;
                bytes = name_table_octets p.names (programs.names_at (sizes_of p)) names;
              }),
            ),
          ),
        ),
      ),
    )
