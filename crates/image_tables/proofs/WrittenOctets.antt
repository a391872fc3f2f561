-- The bytes of a written image are octets, where those of its sections are.
use Rattle.std.proofs.Common.{ℕ, ◌+◌, ◌-◌, ◌*◌, List, [], ◌∷◌, ◌++◌, length}
use Rattle.std.specs.List.{AllByRecursion, flat_map}
use Rattle.host_layout.specs.declared.range.TheConstants.{IMAGE_BASE, PAGE}
use Rattle.pe_image.specs.Numbers.{u16, u32, u64, zeros}
use Rattle.pe_image.specs.declared.layout.TheConstants.{DIRECTORY_SIZE, DOS_HEADER_SIZE, IMAGE_DIRECTORY_ENTRY_EXCEPTION, IMAGE_DIRECTORY_ENTRY_IMPORT, IMAGE_DOS_SIGNATURE, IMAGE_FILE_MACHINE_AMD64, IMAGE_NT_OPTIONAL_HDR64_MAGIC, IMAGE_NT_SIGNATURE, IMAGE_NUMBEROF_DIRECTORY_ENTRIES, SECTION_HEADER_SIZE}
use Rattle.pe_image.specs.declared.directory.DataDirectory.{DataDirectory}
use Rattle.pe_write.specs.declared.header.TheConstants.{DOS_FIELDS_SIZE, FILE_ALIGNMENT, IMAGE_DIRECTORY_ENTRY_IAT, IMAGE_SUBSYSTEM_WINDOWS_CUI, OPTIONAL_HEADER_SIZE, RELOCATION_FIELDS_SIZE, SECTION_TABLE_SIZE, SIZE_OF_HEADERS, STACK_FIELDS_SIZE, SYMBOL_FIELDS_SIZE, VERSION_FIELDS_SIZE}
use Rattle.pe_write.specs.Written.{SectionParts, ImageParts, PlacedSection, pages, raw_size, placed, end_of, code_size, data_size, code_base, dos_header, characteristics, file_header, standard_fields, windows_fields, directory_entry, empty_directories, directories, section_fields, section_header, section_table, table_of, raw_data, written}
use Rattle.image_tables.specs.OctetLaws.{AreOctets}
use Rattle.image_tables.proofs.Octets.{joined, two_bytes, four_bytes, eight_bytes, zero_bytes}

-- ---- the headers

dos_octets : AreOctets dos_header
unfolding dos_header
dos_octets =
    joined (u16 IMAGE_DOS_SIGNATURE ++ zeros DOS_FIELDS_SIZE) (u32 DOS_HEADER_SIZE)
    (joined (u16 IMAGE_DOS_SIGNATURE) (zeros DOS_FIELDS_SIZE)
    (two_bytes IMAGE_DOS_SIGNATURE)
    (zero_bytes DOS_FIELDS_SIZE))
    (four_bytes DOS_HEADER_SIZE)

file_header_octets : (image : ImageParts) → AreOctets (file_header image)
unfolding file_header
file_header_octets image =
    joined (u32 IMAGE_NT_SIGNATURE ++ u16 IMAGE_FILE_MACHINE_AMD64 ++ u16 (length image.sections)
    ++ zeros SYMBOL_FIELDS_SIZE ++ u16 OPTIONAL_HEADER_SIZE) (u16 characteristics)
    (joined (u32 IMAGE_NT_SIGNATURE ++ u16 IMAGE_FILE_MACHINE_AMD64 ++ u16 (length image.sections)
    ++ zeros SYMBOL_FIELDS_SIZE) (u16 OPTIONAL_HEADER_SIZE)
    (joined (u32 IMAGE_NT_SIGNATURE ++ u16 IMAGE_FILE_MACHINE_AMD64 ++ u16 (length image.sections))
    (zeros SYMBOL_FIELDS_SIZE)
    (joined (u32 IMAGE_NT_SIGNATURE ++ u16 IMAGE_FILE_MACHINE_AMD64) (u16 (length image.sections))
    (joined (u32 IMAGE_NT_SIGNATURE) (u16 IMAGE_FILE_MACHINE_AMD64)
    (four_bytes IMAGE_NT_SIGNATURE)
    (two_bytes IMAGE_FILE_MACHINE_AMD64))
    (two_bytes (length image.sections)))
    (zero_bytes SYMBOL_FIELDS_SIZE))
    (two_bytes OPTIONAL_HEADER_SIZE))
    (two_bytes characteristics)

standard_octets : (image : ImageParts) → AreOctets (standard_fields image)
unfolding standard_fields
standard_octets image =
    joined (u16 IMAGE_NT_OPTIONAL_HDR64_MAGIC ++ u16 0 ++ u32 (code_size image.sections)
    ++ u32 (data_size image.sections) ++ u32 0 ++ u32 image.entry)
    (u32 (code_base PAGE image.sections))
    (joined (u16 IMAGE_NT_OPTIONAL_HDR64_MAGIC ++ u16 0 ++ u32 (code_size image.sections)
    ++ u32 (data_size image.sections) ++ u32 0) (u32 image.entry)
    (joined (u16 IMAGE_NT_OPTIONAL_HDR64_MAGIC ++ u16 0 ++ u32 (code_size image.sections)
    ++ u32 (data_size image.sections)) (u32 0)
    (joined (u16 IMAGE_NT_OPTIONAL_HDR64_MAGIC ++ u16 0 ++ u32 (code_size image.sections))
    (u32 (data_size image.sections))
    (joined (u16 IMAGE_NT_OPTIONAL_HDR64_MAGIC ++ u16 0) (u32 (code_size image.sections))
    (joined (u16 IMAGE_NT_OPTIONAL_HDR64_MAGIC) (u16 0)
    (two_bytes IMAGE_NT_OPTIONAL_HDR64_MAGIC)
    (two_bytes 0))
    (four_bytes (code_size image.sections)))
    (four_bytes (data_size image.sections)))
    (four_bytes 0))
    (four_bytes image.entry))
    (four_bytes (code_base PAGE image.sections))

windows_octets : (image : ImageParts) → AreOctets (windows_fields image)
unfolding windows_fields
windows_octets image =
    joined (u64 IMAGE_BASE ++ u32 PAGE ++ u32 FILE_ALIGNMENT ++ zeros VERSION_FIELDS_SIZE
    ++ u32 (end_of image.sections) ++ u32 SIZE_OF_HEADERS ++ u32 0
    ++ u16 IMAGE_SUBSYSTEM_WINDOWS_CUI ++ zeros STACK_FIELDS_SIZE)
    (u32 IMAGE_NUMBEROF_DIRECTORY_ENTRIES)
    (joined (u64 IMAGE_BASE ++ u32 PAGE ++ u32 FILE_ALIGNMENT ++ zeros VERSION_FIELDS_SIZE
    ++ u32 (end_of image.sections) ++ u32 SIZE_OF_HEADERS ++ u32 0
    ++ u16 IMAGE_SUBSYSTEM_WINDOWS_CUI) (zeros STACK_FIELDS_SIZE)
    (joined (u64 IMAGE_BASE ++ u32 PAGE ++ u32 FILE_ALIGNMENT ++ zeros VERSION_FIELDS_SIZE
    ++ u32 (end_of image.sections) ++ u32 SIZE_OF_HEADERS ++ u32 0)
    (u16 IMAGE_SUBSYSTEM_WINDOWS_CUI)
    (joined (u64 IMAGE_BASE ++ u32 PAGE ++ u32 FILE_ALIGNMENT ++ zeros VERSION_FIELDS_SIZE
    ++ u32 (end_of image.sections) ++ u32 SIZE_OF_HEADERS) (u32 0)
    (joined (u64 IMAGE_BASE ++ u32 PAGE ++ u32 FILE_ALIGNMENT ++ zeros VERSION_FIELDS_SIZE
    ++ u32 (end_of image.sections)) (u32 SIZE_OF_HEADERS)
    (joined (u64 IMAGE_BASE ++ u32 PAGE ++ u32 FILE_ALIGNMENT ++ zeros VERSION_FIELDS_SIZE)
    (u32 (end_of image.sections))
    (joined (u64 IMAGE_BASE ++ u32 PAGE ++ u32 FILE_ALIGNMENT) (zeros VERSION_FIELDS_SIZE)
    (joined (u64 IMAGE_BASE ++ u32 PAGE) (u32 FILE_ALIGNMENT)
    (joined (u64 IMAGE_BASE) (u32 PAGE)
    (eight_bytes IMAGE_BASE)
    (four_bytes PAGE))
    (four_bytes FILE_ALIGNMENT))
    (zero_bytes VERSION_FIELDS_SIZE))
    (four_bytes (end_of image.sections)))
    (four_bytes SIZE_OF_HEADERS))
    (four_bytes 0))
    (two_bytes IMAGE_SUBSYSTEM_WINDOWS_CUI))
    (zero_bytes STACK_FIELDS_SIZE))
    (four_bytes IMAGE_NUMBEROF_DIRECTORY_ENTRIES)

entry_octets : (d : DataDirectory) → AreOctets (directory_entry d)
unfolding directory_entry
entry_octets d =
    joined (u32 d.rva) (u32 d.size)
    (four_bytes d.rva)
    (four_bytes d.size)

directories_octets : (image : ImageParts) → AreOctets (directories image)
unfolding directories
directories_octets image =
    joined (empty_directories IMAGE_DIRECTORY_ENTRY_IMPORT ++ directory_entry image.imports
    ++ empty_directories (IMAGE_DIRECTORY_ENTRY_EXCEPTION - IMAGE_DIRECTORY_ENTRY_IMPORT - 1)
    ++ directory_entry image.exceptions
    ++ empty_directories (IMAGE_DIRECTORY_ENTRY_IAT - IMAGE_DIRECTORY_ENTRY_EXCEPTION - 1)
    ++ directory_entry image.import_addresses)
    (empty_directories (IMAGE_NUMBEROF_DIRECTORY_ENTRIES - IMAGE_DIRECTORY_ENTRY_IAT - 1))
    (joined (empty_directories IMAGE_DIRECTORY_ENTRY_IMPORT ++ directory_entry image.imports
    ++ empty_directories (IMAGE_DIRECTORY_ENTRY_EXCEPTION - IMAGE_DIRECTORY_ENTRY_IMPORT - 1)
    ++ directory_entry image.exceptions
    ++ empty_directories (IMAGE_DIRECTORY_ENTRY_IAT - IMAGE_DIRECTORY_ENTRY_EXCEPTION - 1))
    (directory_entry image.import_addresses)
    (joined (empty_directories IMAGE_DIRECTORY_ENTRY_IMPORT ++ directory_entry image.imports
    ++ empty_directories (IMAGE_DIRECTORY_ENTRY_EXCEPTION - IMAGE_DIRECTORY_ENTRY_IMPORT - 1)
    ++ directory_entry image.exceptions)
    (empty_directories (IMAGE_DIRECTORY_ENTRY_IAT - IMAGE_DIRECTORY_ENTRY_EXCEPTION - 1))
    (joined (empty_directories IMAGE_DIRECTORY_ENTRY_IMPORT ++ directory_entry image.imports
    ++ empty_directories (IMAGE_DIRECTORY_ENTRY_EXCEPTION - IMAGE_DIRECTORY_ENTRY_IMPORT - 1))
    (directory_entry image.exceptions)
    (joined (empty_directories IMAGE_DIRECTORY_ENTRY_IMPORT ++ directory_entry image.imports)
    (empty_directories (IMAGE_DIRECTORY_ENTRY_EXCEPTION - IMAGE_DIRECTORY_ENTRY_IMPORT - 1))
    (joined (empty_directories IMAGE_DIRECTORY_ENTRY_IMPORT) (directory_entry image.imports)
    (zero_bytes (DIRECTORY_SIZE * IMAGE_DIRECTORY_ENTRY_IMPORT))
    (entry_octets image.imports))
    (zero_bytes (DIRECTORY_SIZE * (IMAGE_DIRECTORY_ENTRY_EXCEPTION - IMAGE_DIRECTORY_ENTRY_IMPORT
    - 1))))
    (entry_octets image.exceptions))
    (zero_bytes (DIRECTORY_SIZE * (IMAGE_DIRECTORY_ENTRY_IAT - IMAGE_DIRECTORY_ENTRY_EXCEPTION
    - 1))))
    (entry_octets image.import_addresses))
    (zero_bytes (DIRECTORY_SIZE * (IMAGE_NUMBEROF_DIRECTORY_ENTRIES - IMAGE_DIRECTORY_ENTRY_IAT
    - 1)))

fields_octets : (s : PlacedSection) → AreOctets (section_fields s)
unfolding section_fields
fields_octets s =
    joined (u32 s.parts.size ++ u32 s.address ++ u32 (raw_size s.parts) ++ u32 s.raw_at
    ++ zeros RELOCATION_FIELDS_SIZE) (u32 s.parts.flags)
    (joined (u32 s.parts.size ++ u32 s.address ++ u32 (raw_size s.parts) ++ u32 s.raw_at)
    (zeros RELOCATION_FIELDS_SIZE)
    (joined (u32 s.parts.size ++ u32 s.address ++ u32 (raw_size s.parts)) (u32 s.raw_at)
    (joined (u32 s.parts.size ++ u32 s.address) (u32 (raw_size s.parts))
    (joined (u32 s.parts.size) (u32 s.address)
    (four_bytes s.parts.size)
    (four_bytes s.address))
    (four_bytes (raw_size s.parts)))
    (four_bytes s.raw_at))
    (zero_bytes RELOCATION_FIELDS_SIZE))
    (four_bytes s.parts.flags)

-- ---- sections

pub record HasOctets (s : SectionParts) : Type 0 where
  pub name : AreOctets s.name
  pub bytes : AreOctets s.bytes

table_octets : (address raw_at : ℕ) (ss : List SectionParts) → AllByRecursion HasOctets ss
    → AreOctets (section_table (placed address raw_at ss))
table_octets address raw_at [] all = tt
table_octets address raw_at (s ∷ ss) all =
    let p : PlacedSection = record { parts = s; address = address; raw_at = raw_at } in
    joined (section_header p)
    (section_table (placed (address + pages s.size) (raw_at + raw_size s) ss))
    (joined s.name (section_fields p) all.0.name (fields_octets p))
    (table_octets (address + pages s.size) (raw_at + raw_size s) ss all.1)

raw_octets : (s : SectionParts) → HasOctets s → AreOctets (raw_data s)
unfolding raw_data
raw_octets s h = joined s.bytes (zeros (raw_size s - length s.bytes)) h.bytes
    (zero_bytes (raw_size s - length s.bytes))

data_octets : (ss : List SectionParts) → AllByRecursion HasOctets ss
    → AreOctets (flat_map raw_data ss)
data_octets [] all = tt
data_octets (s ∷ ss) all = joined (raw_data s) (flat_map raw_data ss) (raw_octets s all.0)
    (data_octets ss all.1)

pub written_octets : (image : ImageParts) → AllByRecursion HasOctets image.sections
    → AreOctets (written image)
unfolding written
written_octets image all =
    joined (dos_header ++ file_header image ++ standard_fields image ++ windows_fields image
    ++ directories image ++ table_of image) (flat_map raw_data image.sections)
    (joined (dos_header ++ file_header image ++ standard_fields image ++ windows_fields image
    ++ directories image) (table_of image)
    (joined (dos_header ++ file_header image ++ standard_fields image ++ windows_fields image)
    (directories image)
    (joined (dos_header ++ file_header image ++ standard_fields image) (windows_fields image)
    (joined (dos_header ++ file_header image) (standard_fields image)
    (joined dos_header (file_header image)
    (dos_octets)
    (file_header_octets image))
    (standard_octets image))
    (windows_octets image))
    (directories_octets image))
    (joined (section_table (placed PAGE SIZE_OF_HEADERS image.sections))
    (zeros (SECTION_TABLE_SIZE - SECTION_HEADER_SIZE * length image.sections))
    (table_octets PAGE SIZE_OF_HEADERS image.sections all)
    (zero_bytes (SECTION_TABLE_SIZE - SECTION_HEADER_SIZE * length image.sections))))
    (data_octets image.sections all)
