-- How an image is read: fields by their places in the PE format, and the checks in their order.
--
-- The main definitions: `reading`, `IsImage`, `placed`.
use Rattle.std.specs.Prelude.{◌≡◌, ℕ, zero, suc, ◌+◌, ◌*◌, ◌%◌, ◌≤◌, Bool, ◌&&◌, ◌||◌, ◌==◌, nat_lt, nat_le, if◌then◌else◌, List, [], ◌∷◌, length, take, drop, map, min, Result, Ok, Err}
use Rattle.host_layout.specs.declared.range.TheConstants.{PAGE}
use Rattle.host_layout.specs.Ranges.{pages}
use Rattle.pe_image.specs.declared.directory.DataDirectory.{DataDirectory}
use Rattle.pe_image.specs.declared.image_layout.ImageLayout.{ImageLayout}
use Rattle.pe_image.specs.declared.image_layout.ImageLayout.TheVariants as layouts
use Rattle.pe_image.specs.declared.layout.TheConstants.{DOS_HEADER_SIZE, IMAGE_DOS_SIGNATURE, E_LFANEW, FILE_HEADER_SIZE, IMAGE_NT_SIGNATURE, MACHINE, IMAGE_FILE_MACHINE_AMD64, NUMBER_OF_SECTIONS, SIZE_OF_OPTIONAL_HEADER, IMAGE_NT_OPTIONAL_HDR64_MAGIC, ADDRESS_OF_ENTRY_POINT, IMAGE_BASE, SIZE_OF_IMAGE, NUMBER_OF_RVA_AND_SIZES, DIRECTORIES, DIRECTORY_SIZE, IMAGE_DIRECTORY_ENTRY_IMPORT, IMAGE_DIRECTORY_ENTRY_EXCEPTION, SECTION_HEADER_SIZE, SECTION_NAME_SIZE, VIRTUAL_SIZE, VIRTUAL_ADDRESS, SIZE_OF_RAW_DATA, POINTER_TO_RAW_DATA, CHARACTERISTICS, SIZE_IN_DIRECTORY}
use Rattle.pe_image.specs.declared.refusal.ImageErr.{ImageErr}
use Rattle.pe_image.specs.declared.refusal.ImageErr.TheVariants as refusals
use Rattle.pe_image.specs.declared.table.SectionHeader.{SectionHeader}
use Rattle.seh_num.specs.Answers.{unless, ◌>>=◌}
use Rattle.pe_image.specs.Field.{field, is_there}
use Rattle.pe_image.specs.Image.{Section, Image}
use Rattle.pe_image.specs.Imports.{imports, imports_in}

-- ---- the headers

-- e_lfanew, where the signature begins
abbrev pub signature_at : List ℕ → ℕ
signature_at bytes = field 4 bytes E_LFANEW

-- the file header, after the signature
abbrev pub machine : List ℕ → ℕ
machine bytes = field 2 bytes (signature_at bytes + MACHINE)

abbrev pub section_count : List ℕ → ℕ
section_count bytes = field 2 bytes (signature_at bytes + NUMBER_OF_SECTIONS)

abbrev pub optional_size : List ℕ → ℕ
optional_size bytes = field 2 bytes (signature_at bytes + SIZE_OF_OPTIONAL_HEADER)

-- the optional header, with the directories at its end
abbrev pub optional_at : List ℕ → ℕ
optional_at bytes = signature_at bytes + FILE_HEADER_SIZE

abbrev pub magic : List ℕ → ℕ
magic bytes = field 2 bytes (optional_at bytes)

abbrev pub entry_point : List ℕ → ℕ
entry_point bytes = field 4 bytes (optional_at bytes + ADDRESS_OF_ENTRY_POINT)

abbrev pub image_base : List ℕ → ℕ
image_base bytes = field 8 bytes (optional_at bytes + IMAGE_BASE)

abbrev pub image_size : List ℕ → ℕ
image_size bytes = field 4 bytes (optional_at bytes + SIZE_OF_IMAGE)

abbrev pub directory_count : List ℕ → ℕ
directory_count bytes = field 4 bytes (optional_at bytes + NUMBER_OF_RVA_AND_SIZES)

abbrev pub directories_at : List ℕ → ℕ
directories_at bytes = optional_at bytes + DIRECTORIES

abbrev pub directories_size : List ℕ → ℕ
directories_size bytes = DIRECTORY_SIZE * directory_count bytes

-- the section table, after the optional header
abbrev pub sections_at : List ℕ → ℕ
sections_at bytes = optional_at bytes + optional_size bytes

abbrev pub sections_size : List ℕ → ℕ
sections_size bytes = SECTION_HEADER_SIZE * section_count bytes

-- what the headers must hold, checked in this order: first up to the file header
abbrev pub file_header : List ℕ → Result Unit ImageErr
file_header bytes = do
  _ ← unless (is_there bytes 0 DOS_HEADER_SIZE) (refusals.Truncated 0)
  _ ← unless (field 2 bytes 0 == IMAGE_DOS_SIGNATURE) (refusals.NotPe 0)
  _ ← unless (is_there bytes (signature_at bytes) FILE_HEADER_SIZE)
      (refusals.Truncated (signature_at bytes))
  _ ← unless (field 4 bytes (signature_at bytes) == IMAGE_NT_SIGNATURE)
      (refusals.NotPe (signature_at bytes))
  unless (machine bytes == IMAGE_FILE_MACHINE_AMD64) (refusals.Machine (machine bytes))

-- then the optional header and the section table
abbrev pub optional_header : List ℕ → Result Unit ImageErr
optional_header bytes = do
  _ ← unless (is_there bytes (optional_at bytes) DIRECTORIES && nat_le DIRECTORIES
      (optional_size bytes)) (refusals.Truncated (optional_at bytes))
  _ ← unless (magic bytes == IMAGE_NT_OPTIONAL_HDR64_MAGIC) (refusals.Magic (magic bytes))
  _ ← unless (nat_le (DIRECTORIES + directories_size bytes) (optional_size bytes) && is_there bytes
      (directories_at bytes) (directories_size bytes))
      (refusals.Truncated (directories_at bytes))
  unless (is_there bytes (sections_at bytes) (sections_size bytes))
      (refusals.Truncated (sections_at bytes))

unfoldable pub headers : List ℕ → Result Unit ImageErr
headers bytes = do
  _ ← file_header bytes
  optional_header bytes

-- the bytes that the checks of the headers find there
pub record HasHeaders (bytes : List ℕ) : Type 0 where
  pub optional : optional_at bytes + DIRECTORIES ≤ length bytes
  pub directories : directories_at bytes + directories_size bytes ≤ length bytes
  pub table : sections_at bytes + sections_size bytes ≤ length bytes

-- a directory by its index; one that isn't counted is empty
abbrev pub directory : List ℕ → ℕ → DataDirectory
directory bytes k =
    if nat_lt k (directory_count bytes)
    then record {
      rva = field 4 bytes (directories_at bytes + DIRECTORY_SIZE * k);
      size = field 4 bytes (directories_at bytes + DIRECTORY_SIZE * k + SIZE_IN_DIRECTORY);
    }
    else record { rva = 0; size = 0 }

-- ---- the sections

-- a VirtualSize of 0 means SizeOfRawData
abbrev pub size_of : ℕ → ℕ → ℕ
size_of zero raw_size = raw_size
size_of (suc n) raw_size = suc n

abbrev pub header_at : List ℕ → ℕ → SectionHeader
header_at bytes at = record {
  name = take SECTION_NAME_SIZE (drop at bytes);
  size = size_of (field 4 bytes (at + VIRTUAL_SIZE)) (field 4 bytes (at + SIZE_OF_RAW_DATA));
  address = field 4 bytes (at + VIRTUAL_ADDRESS);
  raw_size = field 4 bytes (at + SIZE_OF_RAW_DATA);
  raw_at = field 4 bytes (at + POINTER_TO_RAW_DATA);
  flags = field 4 bytes (at + CHARACTERISTICS);
}

-- so many headers from a place on
abbrev pub headers_from : List ℕ → ℕ → ℕ → List SectionHeader
headers_from bytes zero at = []
headers_from bytes (suc n) at = header_at bytes at ∷ headers_from bytes n (at + SECTION_HEADER_SIZE)

-- where the bytes of an image have a section. In a file they are its raw data; where a loader
-- mapped the image (`Mapped`), they are at its address, all of its size. `outline_in`,
-- `reading_in`: the readings in such a layout; `outline` and `reading` are those of a file.
abbrev pub placed : ImageLayout → SectionHeader → SectionHeader
placed layouts.File s = s
placed layouts.Mapped s = record s { raw_at = s.address; raw_size = s.size }

abbrev pub all_placed : ImageLayout → List SectionHeader → List SectionHeader
all_placed layouts.File hs = hs
all_placed layouts.Mapped hs = map (placed layouts.Mapped) hs

-- what is stored lies in so many bytes; pages above the end of the section before and within the
-- image
abbrev pub is_laid_out : ℕ → ℕ → ℕ → SectionHeader → Bool
is_laid_out byte_count limit end s =
    ((s.raw_size == 0) || nat_le (s.raw_at + s.raw_size) byte_count) &&
    (s.address % PAGE == 0) && nat_le end s.address && nat_le (s.address + s.size) limit

-- section by section, from an index on and after an end
abbrev pub all_laid_out : ℕ → ℕ → ℕ → ℕ → List SectionHeader → Result Unit ImageErr
all_laid_out byte_count limit index end [] = Ok tt
all_laid_out byte_count limit index end (s ∷ ss) = do
  _ ← unless (is_laid_out byte_count limit end s) (refusals.Layout index)
  all_laid_out byte_count limit (index + 1) (s.address + s.size) ss

-- what is stored of a section lies below its size
abbrev pub section_of : List ℕ → SectionHeader → Section
section_of bytes s =
    record {
      name = s.name;
      address = s.address;
      size = s.size;
      raw = take (min s.size s.raw_size) (drop s.raw_at bytes);
      flags = s.flags;
    }

abbrev pub sections_of : List ℕ → ℕ → List SectionHeader → Result (List Section) ImageErr
sections_of bytes limit hs = do
  _ ← all_laid_out (length bytes) limit 0 0 hs
  Ok (map (section_of bytes) hs)

-- ---- the image

-- SizeOfImage, rounded up to whole pages
abbrev pub image_end : List ℕ → ℕ
image_end bytes = pages (image_size bytes)

abbrev pub image_with : List ℕ → List Section → Image
image_with bytes sections = record {
  base = image_base bytes;
  entry = entry_point bytes;
  size = image_size bytes;
  sections = sections;
  imports = directory bytes IMAGE_DIRECTORY_ENTRY_IMPORT;
  exceptions = directory bytes IMAGE_DIRECTORY_ENTRY_EXCEPTION;
}

-- by its sections
abbrev pub sectioned : ImageLayout → List ℕ → Result Image ImageErr
sectioned layout bytes = do
  sections ← sections_of bytes (image_end bytes)
      (all_placed layout (headers_from bytes (section_count bytes) (sections_at bytes)))
  Ok (image_with bytes sections)

-- by its headers and its sections
abbrev pub outline_in : ImageLayout → List ℕ → Result Image ImageErr
outline_in layout bytes = do
  _ ← headers bytes
  sectioned layout bytes

-- in a file
unfoldable pub outline : List ℕ → Result Image ImageErr
outline bytes = outline_in layouts.File bytes

-- the same image, which imports what a directory names, if it can be read
abbrev pub importing : DataDirectory → Image → Result Image ImageErr
importing d image = do
  _ ← imports_in image.sections d
  Ok (record image { imports = d })

abbrev pub sectioned_importing : DataDirectory → ImageLayout → List ℕ → Result Image ImageErr
sectioned_importing d layout bytes = do
  image ← sectioned layout bytes
  importing d image

-- the same image, whose imports aren't looked at: it imports nothing
abbrev pub unimported : Image → Image
unimported image = record image { imports = record { rva = 0; size = 0 } }

unfoldable pub outline_alone : ImageLayout → List ℕ → Result Image ImageErr
outline_alone layout bytes = do
  image ← outline_in layout bytes
  Ok (unimported image)

-- the checks of a PE32+ image for x64 in their order, each with its refusal, and the image that is
-- read where none fails. That has a base, an entry point, a size, sections with their names and
-- what the file stores of each, and directories (PE format, "MS-DOS Stub", "COFF File Header",
-- "Optional Header", "Section Table").
unfoldable pub reading : List ℕ → Result Image ImageErr
reading bytes = do
  image ← outline bytes
  _ ← imports image
  Ok image

-- in a layout
unfoldable pub reading_in : ImageLayout → List ℕ → Result Image ImageErr
reading_in layout bytes = do
  image ← outline_in layout bytes
  _ ← imports image
  Ok image

-- the bytes are read as this image
abbrev pub IsImage : List ℕ → Image → Type 0
IsImage bytes image = reading bytes ≡ Ok image

-- the bytes are refused so; a want of memory says nothing of them
abbrev pub ImageIsRefused : List ℕ → ImageErr → Type 0
ImageIsRefused bytes refusals.Memory = Unit {0}
ImageIsRefused bytes e = reading bytes ≡ Err e
