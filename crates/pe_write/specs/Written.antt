-- The one form in which an image is written, piece by piece.
--
-- The main definition: `written`.
use Rattle.std.specs.Prelude.{◌≡◌, ℕ, ◌+◌, ◌-◌, ◌*◌, ◌/◌, ◌^◌, ◌<◌, ◌≤◌, bit_and, Bool, true, false, not, ◌==◌, List, [], ◌∷◌, ◌++◌, length, take, sum_by, filter, Ok}
use Rattle.std.specs.List.{flat_map, AllByRecursion}
use Rattle.host_layout.specs.declared.range.TheConstants.{IMAGE_BASE, PAGE}
pub use Rattle.pe_image.specs.Numbers.{u16, u32, u64, zeros}
pub use Rattle.host_layout.specs.Ranges.{pages}
use Rattle.pe_image.specs.declared.layout.TheConstants.{DIRECTORY_SIZE, DOS_HEADER_SIZE, IMAGE_DIRECTORY_ENTRY_EXCEPTION, IMAGE_DIRECTORY_ENTRY_IMPORT, IMAGE_DOS_SIGNATURE, IMAGE_FILE_MACHINE_AMD64, IMAGE_NT_OPTIONAL_HDR64_MAGIC, IMAGE_NT_SIGNATURE, IMAGE_NUMBEROF_DIRECTORY_ENTRIES, SECTION_HEADER_SIZE}
use Rattle.pe_write.specs.declared.header.TheConstants.{DOS_FIELDS_SIZE, FILE_ALIGNMENT, IMAGE_DIRECTORY_ENTRY_IAT, IMAGE_FILE_EXECUTABLE_IMAGE, IMAGE_FILE_LARGE_ADDRESS_AWARE, IMAGE_FILE_RELOCS_STRIPPED, IMAGE_SCN_CNT_CODE, IMAGE_SUBSYSTEM_WINDOWS_CUI, MOST_SECTIONS, OPTIONAL_HEADER_SIZE, RELOCATION_FIELDS_SIZE, SECTION_TABLE_SIZE, SIZE_OF_HEADERS, STACK_FIELDS_SIZE, SYMBOL_FIELDS_SIZE, VERSION_FIELDS_SIZE}
use Rattle.pe_image.specs.declared.directory.DataDirectory.{DataDirectory}
use Rattle.pe_image.specs.Image.{Section, Image}
use Rattle.pe_image.specs.Imports as importing

-- ---- what is written

-- a section: a name of eight bytes, its characteristics, how many bytes it takes in the image, and
-- those that the file stores of it
pub record SectionParts : Type 0 where
  pub name : List ℕ
  pub flags : ℕ
  pub size : ℕ
  pub bytes : List ℕ

-- an image: its entry point, its sections in their order, and those directories that aren't empty
pub record ImageParts : Type 0 where
  pub entry : ℕ
  pub sections : List SectionParts
  pub imports : DataDirectory
  pub exceptions : DataDirectory
  pub import_addresses : DataDirectory

-- ---- where each part is placed

-- n rounded up to whole blocks of a file
abbrev pub blocks : ℕ → ℕ
blocks n = (n + (FILE_ALIGNMENT - 1)) / FILE_ALIGNMENT * FILE_ALIGNMENT

abbrev pub raw_size : SectionParts → ℕ
raw_size s = blocks (length s.bytes)

-- a section at an address, with its raw data at a place in the file
pub record PlacedSection : Type 0 where
  pub parts : SectionParts
  pub address : ℕ
  pub raw_at : ℕ

-- each section begins on the next page, and its raw data in the next block
abbrev pub placed : ℕ → ℕ → List SectionParts → List PlacedSection
placed address raw_at [] = []
placed address raw_at (s ∷ ss) =
    record { parts = s; address = address; raw_at = raw_at }
    ∷ placed (address + pages s.size) (raw_at + raw_size s) ss

-- after the page of the headers and those of the sections
abbrev pub end_of : List SectionParts → ℕ
end_of ss = PAGE + sum_by (λ s. pages s.size) ss

-- ---- the sections of code, and the others

abbrev pub is_code : SectionParts → Bool
is_code s = not (bit_and s.flags IMAGE_SCN_CNT_CODE == 0)

abbrev pub code_size : List SectionParts → ℕ
code_size ss = sum_by raw_size (filter is_code ss)

abbrev pub data_size : List SectionParts → ℕ
data_size ss = sum_by raw_size (filter (λ s. not (is_code s)) ss)

abbrev pub number_if : ℕ → ℕ → Bool → ℕ
number_if n other true = n
number_if n other false = other

-- where the first section of code begins
abbrev pub code_base : ℕ → List SectionParts → ℕ
code_base address [] = 0
code_base address (s ∷ ss) = number_if address (code_base (address + pages s.size) ss) (is_code s)

-- ---- pieces

unfoldable pub dos_header : List ℕ
dos_header =
    u16 IMAGE_DOS_SIGNATURE  -- e_magic
    ++ zeros DOS_FIELDS_SIZE
    ++ u32 DOS_HEADER_SIZE  -- e_lfanew

abbrev pub characteristics : ℕ
characteristics =
    IMAGE_FILE_RELOCS_STRIPPED + IMAGE_FILE_EXECUTABLE_IMAGE + IMAGE_FILE_LARGE_ADDRESS_AWARE

unfoldable pub file_header : ImageParts → List ℕ
file_header image =
    u32 IMAGE_NT_SIGNATURE
    ++ u16 IMAGE_FILE_MACHINE_AMD64  -- Machine
    ++ u16 (length image.sections)  -- NumberOfSections
    ++ zeros SYMBOL_FIELDS_SIZE  -- TimeDateStamp, PointerToSymbolTable, NumberOfSymbols
    ++ u16 OPTIONAL_HEADER_SIZE  -- SizeOfOptionalHeader
    ++ u16 characteristics  -- Characteristics

unfoldable pub standard_fields : ImageParts → List ℕ
standard_fields image =
    u16 IMAGE_NT_OPTIONAL_HDR64_MAGIC  -- Magic
    ++ u16 0  -- MajorLinkerVersion, MinorLinkerVersion
    ++ u32 (code_size image.sections)  -- SizeOfCode
    ++ u32 (data_size image.sections)  -- SizeOfInitializedData
    ++ u32 0  -- SizeOfUninitializedData
    ++ u32 image.entry  -- AddressOfEntryPoint
    ++ u32 (code_base PAGE image.sections)  -- BaseOfCode

unfoldable pub windows_fields : ImageParts → List ℕ
windows_fields image =
    u64 IMAGE_BASE  -- ImageBase
    ++ u32 PAGE  -- SectionAlignment
    ++ u32 FILE_ALIGNMENT  -- FileAlignment
    ++ zeros VERSION_FIELDS_SIZE  -- MajorOperatingSystemVersion to Win32VersionValue
    ++ u32 (end_of image.sections)  -- SizeOfImage
    ++ u32 SIZE_OF_HEADERS  -- SizeOfHeaders
    ++ u32 0  -- CheckSum
    ++ u16 IMAGE_SUBSYSTEM_WINDOWS_CUI  -- Subsystem
    ++ zeros STACK_FIELDS_SIZE  -- DllCharacteristics to LoaderFlags
    ++ u32 IMAGE_NUMBEROF_DIRECTORY_ENTRIES  -- NumberOfRvaAndSizes

unfoldable pub directory_entry : DataDirectory → List ℕ
directory_entry d = u32 d.rva ++ u32 d.size

abbrev pub empty_directories : ℕ → List ℕ
empty_directories n = zeros (DIRECTORY_SIZE * n)

-- each at its index
unfoldable pub directories : ImageParts → List ℕ
directories image =
    empty_directories IMAGE_DIRECTORY_ENTRY_IMPORT
    ++ directory_entry image.imports
    ++ empty_directories (IMAGE_DIRECTORY_ENTRY_EXCEPTION - IMAGE_DIRECTORY_ENTRY_IMPORT - 1)
    ++ directory_entry image.exceptions
    ++ empty_directories (IMAGE_DIRECTORY_ENTRY_IAT - IMAGE_DIRECTORY_ENTRY_EXCEPTION - 1)
    ++ directory_entry image.import_addresses
    ++ empty_directories (IMAGE_NUMBEROF_DIRECTORY_ENTRIES - IMAGE_DIRECTORY_ENTRY_IAT - 1)

unfoldable pub section_fields : PlacedSection → List ℕ
section_fields s =
    u32 s.parts.size  -- VirtualSize
    ++ u32 s.address  -- VirtualAddress
    ++ u32 (raw_size s.parts)  -- SizeOfRawData
    ++ u32 s.raw_at  -- PointerToRawData
    ++ zeros RELOCATION_FIELDS_SIZE  -- PointerToRelocations to NumberOfLinenumbers
    ++ u32 s.parts.flags  -- Characteristics

abbrev pub section_header : PlacedSection → List ℕ
section_header s = s.parts.name ++ section_fields s

abbrev pub section_table : List PlacedSection → List ℕ
section_table ss = flat_map section_header ss

-- up to the end of the headers
abbrev pub table_of : ImageParts → List ℕ
table_of image =
    section_table (placed PAGE SIZE_OF_HEADERS image.sections)
    ++ zeros (SECTION_TABLE_SIZE - SECTION_HEADER_SIZE * length image.sections)

unfoldable pub raw_data : SectionParts → List ℕ
raw_data s = s.bytes ++ zeros (raw_size s - length s.bytes)

-- the bytes of an image of sections, piece by piece: the headers, filled up to 1,024 bytes, and the
-- raw data of each section, filled up to whole blocks of 512 bytes
unfoldable pub written : ImageParts → List ℕ
written image =
    dos_header
    ++ file_header image
    ++ standard_fields image
    ++ windows_fields image
    ++ directories image
    ++ table_of image
    ++ flat_map raw_data image.sections

-- ---- what is read again

-- the raw data, cut at the section's size
abbrev pub section_read : PlacedSection → Section
section_read s =
    record {
      name = s.parts.name;
      address = s.address;
      size = s.parts.size;
      raw = take s.parts.size (raw_data s.parts);
      flags = s.parts.flags;
    }

abbrev pub sections_read : List PlacedSection → List Section
sections_read [] = []
sections_read (s ∷ ss) = section_read s ∷ sections_read ss

abbrev pub image_read : ImageParts → Image
image_read image = record {
  base = IMAGE_BASE;
  entry = image.entry;
  size = end_of image.sections;
  sections = sections_read (placed PAGE SIZE_OF_HEADERS image.sections);
  imports = image.imports;
  exceptions = image.exceptions;
}

-- ---- what can be written

pub record IsSection (s : SectionParts) : Type 0 where
  pub name : length s.name ≡ 8
  pub flags : s.flags < 2 ^ 32
  pub stored : length s.bytes ≤ s.size

abbrev pub IsDirectory : DataDirectory → Type 0
IsDirectory d = (d.rva < 2 ^ 32) × (d.size < 2 ^ 32)

-- the section table fits the headers, all addresses fit 32 bits, and the imports can be read
pub record CanBeWritten (image : ImageParts) : Type 0 where
  pub entry : image.entry < 2 ^ 32
  pub sections : AllByRecursion IsSection image.sections
  pub table : length image.sections ≤ MOST_SECTIONS
  pub end : end_of image.sections < 2 ^ 32
  pub imports : IsDirectory image.imports
  pub exceptions : IsDirectory image.exceptions
  pub import_addresses : IsDirectory image.import_addresses
  pub imported : importing.imports (image_read image) ≡ Ok (importing.imports_of (image_read image))
