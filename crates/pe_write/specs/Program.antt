-- The image of a program, as it is written: five sections, the services of its host that it
-- imports, and the table of its functions; and a sixth section where its functions have names.
--
-- The main definitions: `parts_of`, `image_of`, `imports_of`, `CanBeImage`.
use Rattle.std.specs.Prelude.{◌≡◌, ℕ, ◌+◌, ◌%◌, ◌^◌, ◌<◌, ◌≤◌, List, [], ◌∷◌, length}
use Rattle.host_layout.specs.declared.range.TheConstants.{IMAGE_BASE, DATA_AT, PAGE}
use Rattle.pe_image.specs.declared.layout.TheConstants.{IMAGE_SCN_MEM_EXECUTE, IMAGE_SCN_MEM_READ, IMAGE_SCN_MEM_WRITE, SEHNAME_NAME}
use Rattle.pe_write.specs.declared.header.TheConstants.{IMAGE_SCN_CNT_CODE, IMAGE_SCN_CNT_INITIALIZED_DATA, DATA_NAME, TEXT_NAME, RDATA_NAME, XDATA_NAME, PDATA_NAME}
use Rattle.pe_write.specs.declared.import_tables.TheConstants.{DESCRIPTORS_SIZE}
use Rattle.pe_image.specs.declared.directory.DataDirectory.{DataDirectory}
use Rattle.host_layout.specs.declared.imported.ImportedService.{ImportedService}
use Rattle.pe_write.specs.declared.sizes.Sizes.{Sizes}
use Rattle.pe_image.specs.Image.{Section, Image}
use Rattle.pe_image.specs.Imports.{Import}
use Rattle.pe_write.specs.ImportTables.{slots_at, addresses_size, tables_size, import_tables, imported}
use Rattle.pe_write.specs.NameTable.{NameRow, name_table_size, name_table_bytes}
use Rattle.pe_write.specs.Written.{SectionParts, ImageParts, pages, raw_data}

-- a program: the services that it imports, in the order of their slots, how many bytes its data
-- takes and what the file stores of it, its code and where in it the program begins, its unwind
-- infos and its function table, and the rows of the table of names
pub record ImageContents : Type 0 where
  pub imports : List ImportedService
  pub data_size : ℕ
  pub data_bytes : List ℕ
  pub text : List ℕ
  pub entry : ℕ
  pub xdata : List ℕ
  pub pdata : List ℕ
  pub names : List NameRow

-- ---- where its sections lie: each after the pages of the one before

-- `.text`, after `.data` of so many bytes
abbrev pub text_after : ℕ → ℕ
text_after data_size = DATA_AT + pages data_size

-- `.rdata`, after `.data` and `.text` of so many bytes
abbrev pub rdata_after : ℕ → ℕ → ℕ
rdata_after data_size text_size = text_after data_size + pages text_size

-- `.xdata`, after `.data`, `.text` and `.rdata` of so many bytes
abbrev pub xdata_after : ℕ → ℕ → ℕ → ℕ
xdata_after data_size text_size rdata_size = rdata_after data_size text_size + pages rdata_size

abbrev pub text_at : Sizes → ℕ
text_at s = text_after s.data_size

abbrev pub rdata_at : Sizes → ℕ
rdata_at s = rdata_after s.data_size s.text_size

abbrev pub xdata_at : Sizes → ℕ
xdata_at s = xdata_after s.data_size s.text_size s.rdata_size

abbrev pub pdata_at : Sizes → ℕ
pdata_at s = xdata_at s + pages s.xdata_size

abbrev pub names_at : Sizes → ℕ
names_at s = pdata_at s + pages s.pdata_size

abbrev pub end_at : Sizes → ℕ
end_at s = names_at s + pages s.names_size

abbrev pub sizes_of : ImageContents → Sizes
sizes_of p =
    record {
      data_size = p.data_size;
      text_size = length p.text;
      rdata_size = tables_size p.imports;
      xdata_size = length p.xdata;
      pdata_size = length p.pdata;
      names_size = name_table_size p.names;
    }

-- ---- its sections

-- initialized data, read and written
abbrev pub data_flags : ℕ
data_flags = IMAGE_SCN_CNT_INITIALIZED_DATA + IMAGE_SCN_MEM_READ + IMAGE_SCN_MEM_WRITE

-- code, read and executed
abbrev pub text_flags : ℕ
text_flags = IMAGE_SCN_CNT_CODE + IMAGE_SCN_MEM_EXECUTE + IMAGE_SCN_MEM_READ

-- initialized data, read
abbrev pub const_flags : ℕ
const_flags = IMAGE_SCN_CNT_INITIALIZED_DATA + IMAGE_SCN_MEM_READ

abbrev pub data_section : ImageContents → SectionParts
data_section p =
    record {
      name = DATA_NAME;
      flags = data_flags;
      size = p.data_size;
      bytes = p.data_bytes;
    }

abbrev pub text_section : ImageContents → SectionParts
text_section p =
    record {
      name = TEXT_NAME;
      flags = text_flags;
      size = length p.text;
      bytes = p.text;
    }

abbrev pub const_section : List ℕ → ℕ → List ℕ → SectionParts
const_section name size bytes =
    record { name = name; flags = const_flags; size = size; bytes = bytes }

abbrev pub rdata_section : ImageContents → SectionParts
rdata_section p =
    const_section RDATA_NAME (tables_size p.imports)
    (import_tables p.imports (rdata_at (sizes_of p)))

abbrev pub xdata_section : ImageContents → SectionParts
xdata_section p = const_section XDATA_NAME (length p.xdata) p.xdata

abbrev pub pdata_section : ImageContents → SectionParts
pdata_section p = const_section PDATA_NAME (length p.pdata) p.pdata

abbrev pub names_section : ImageContents → SectionParts
names_section p =
    const_section SEHNAME_NAME (name_table_size p.names)
    (name_table_bytes p.names (names_at (sizes_of p)))

-- where there are no rows there is no section
abbrev pub if_named : {A : Type 0} → List NameRow → A → List A
if_named [] section = []
if_named (r ∷ rs) section = section ∷ []

-- ---- its directories

-- the descriptors
abbrev pub import_directory : ImageContents → DataDirectory
import_directory p = record { rva = rdata_at (sizes_of p); size = DESCRIPTORS_SIZE }

-- the function table
abbrev pub exception_directory : ImageContents → DataDirectory
exception_directory p = record { rva = pdata_at (sizes_of p); size = length p.pdata }

-- the slots
abbrev pub address_directory : ImageContents → DataDirectory
address_directory p =
    record {
      rva = slots_at p.imports (rdata_at (sizes_of p));
      size = addresses_size p.imports;
    }

-- ---- the image

-- a program's image as sections and directories
abbrev pub parts_of : ImageContents → ImageParts
parts_of p = record {
  entry = text_at (sizes_of p) + p.entry;
  sections =
      data_section p ∷ text_section p ∷ rdata_section p ∷ xdata_section p ∷ pdata_section p
      ∷ if_named p.names (names_section p);
  imports = import_directory p;
  exceptions = exception_directory p;
  import_addresses = address_directory p;
}

-- its sections as they are read
abbrev pub section_with : List ℕ → ℕ → ℕ → List ℕ → ℕ → Section
section_with name address size raw flags =
    record { name = name; address = address; size = size; raw = raw; flags = flags }

-- with what fills up its raw data
abbrev pub data_read : ImageContents → Section
data_read p =
    section_with DATA_NAME DATA_AT p.data_size (raw_data (data_section p)) data_flags

abbrev pub text_read : ImageContents → Section
text_read p = section_with TEXT_NAME (text_at (sizes_of p)) (length p.text) p.text text_flags

abbrev pub rdata_read : ImageContents → Section
rdata_read p =
    section_with RDATA_NAME (rdata_at (sizes_of p)) (tables_size p.imports)
    (import_tables p.imports (rdata_at (sizes_of p))) const_flags

abbrev pub xdata_read : ImageContents → Section
xdata_read p = section_with XDATA_NAME (xdata_at (sizes_of p)) (length p.xdata) p.xdata const_flags

abbrev pub pdata_read : ImageContents → Section
pdata_read p = section_with PDATA_NAME (pdata_at (sizes_of p)) (length p.pdata) p.pdata const_flags

abbrev pub names_read : ImageContents → Section
names_read p =
    section_with SEHNAME_NAME (names_at (sizes_of p)) (name_table_size p.names)
    (name_table_bytes p.names (names_at (sizes_of p))) const_flags

abbrev pub sections_of : ImageContents → List Section
sections_of p =
    data_read p ∷ text_read p ∷ rdata_read p ∷ xdata_read p ∷ pdata_read p
    ∷ if_named p.names (names_read p)

-- a program's image as it is read again
abbrev pub image_of : ImageContents → Image
image_of p = record {
  base = IMAGE_BASE;
  entry = text_at (sizes_of p) + p.entry;
  size = end_at (sizes_of p);
  sections = sections_of p;
  imports = import_directory p;
  exceptions = exception_directory p;
}

-- each service that is imported with its slot
abbrev pub imports_of : ImageContents → List Import
imports_of p = imported (slots_at p.imports (rdata_at (sizes_of p))) p.imports

-- ---- what can be written

-- the program imports fewer than 65,536 services, `.data` takes whole pages, at least one, the
-- program begins inside its code, and all addresses fit 32 bits
pub record CanBeImage (p : ImageContents) : Type 0 where
  pub imports : length p.imports < 2 ^ 16
  pub whole : p.data_size % PAGE ≡ 0
  pub some : PAGE ≤ p.data_size
  pub stored : length p.data_bytes ≤ p.data_size
  pub entry : p.entry < length p.text
  pub end : end_at (sizes_of p) < 2 ^ 32
