-- An image by hand, written and read by the definitions alone: `.data` is a page of zeros, `.text`
-- has `mov eax, 7` and `ret`.
use Rattle.std.proofs.Common.{◌≡◌, ℕ, List, [], ◌∷◌, ◌++◌, Some, None, refl}
use Rattle.pe_image.specs.Image.{Section, stored}
use Rattle.pe_image.specs.Reading.{headers, outline, reading, IsImage}
use Rattle.pe_image.specs.Numbers.{u16, u32, u64, zeros}
use Rattle.pe_write.specs.Written.{ImageParts, dos_header, file_header, standard_fields, windows_fields, directory_entry, directories, section_fields, raw_data, written}

abbrev code : List ℕ
code = 184 ∷ 7 ∷ 0 ∷ 0 ∷ 0 ∷ 195 ∷ []

abbrev front : List ℕ
front =
    u16 0x5A4D ++ zeros 58 ++ u32 0x40
    ++ u32 0x4550 ++ u16 0x8664 ++ u16 2 ++ zeros 12 ++ u16 240 ++ u16 0x23
    ++ u16 0x20B ++ u16 0 ++ u32 512 ++ zeros 8 ++ u32 0x2000 ++ u32 0x2000
    ++ u64 0x140000000 ++ u32 4096 ++ u32 512 ++ zeros 16 ++ u32 0x3000 ++ u32 1024 ++ zeros 4
    ++ u16 3 ++ zeros 38 ++ u32 16
    ++ zeros 24 ++ u32 0x2003 ++ u32 12 ++ zeros 96

abbrev table : List ℕ
table =
    (46 ∷ 100 ∷ 97 ∷ 116 ∷ 97 ∷ 0 ∷ 0 ∷ 0 ∷ []) ++ u32 4096 ++ u32 0x1000 ++ u32 0 ++ u32 1024
    ++ zeros 12 ++ u32 0xC0000040
    ++ (46 ∷ 116 ∷ 101 ∷ 120 ∷ 116 ∷ 0 ∷ 0 ∷ 0 ∷ []) ++ u32 6 ++ u32 0x2000 ++ u32 512 ++ u32 1024
    ++ zeros 12 ++ u32 0x60000020

abbrev bytes : List ℕ
bytes = front ++ table ++ zeros 616 ++ code ++ zeros 506

abbrev parts : ImageParts
parts = record {
  entry = 0x2000;
  sections =
      record {
        name = 46 ∷ 100 ∷ 97 ∷ 116 ∷ 97 ∷ 0 ∷ 0 ∷ 0 ∷ [];
        flags = 0xC0000040;
        size = 4096;
        bytes = [];
      }
      ∷ record {
        name = 46 ∷ 116 ∷ 101 ∷ 120 ∷ 116 ∷ 0 ∷ 0 ∷ 0 ∷ [];
        flags = 0x60000020;
        size = 6;
        bytes = code;
      }
      ∷ [];
  imports = record { rva = 0; size = 0 };
  exceptions = record { rva = 0x2003; size = 12 };
  import_addresses = record { rva = 0; size = 0 };
}

is_written : written parts ≡ bytes
unfolding written dos_header file_header standard_fields windows_fields directory_entry directories
    section_fields raw_data u16 u32 u64 zeros
is_written = refl

abbrev sections : List Section
sections =
    record {
      name = 46 ∷ 100 ∷ 97 ∷ 116 ∷ 97 ∷ 0 ∷ 0 ∷ 0 ∷ [];
      address = 0x1000;
      size = 4096;
      raw = [];
      flags = 0xC0000040;
    }
    ∷ record {
      name = 46 ∷ 116 ∷ 101 ∷ 120 ∷ 116 ∷ 0 ∷ 0 ∷ 0 ∷ [];
      address = 0x2000;
      size = 6;
      raw = code;
      flags = 0x60000020;
    }
    ∷ []

is_read : IsImage bytes (record {
  base = 0x140000000;
  entry = 0x2000;
  size = 0x3000;
  sections = sections;
  imports = record { rva = 0; size = 0 };
  exceptions = record { rva = 0x2003; size = 12 };
})
unfolding reading outline headers u16 u32 u64 zeros
is_read = refl

is_stored : stored sections 0x2001 4 ≡ Some (7 ∷ 0 ∷ 0 ∷ 0 ∷ [])
is_stored = refl

passes_the_end : stored sections 0x2001 6 ≡ None
passes_the_end = refl
