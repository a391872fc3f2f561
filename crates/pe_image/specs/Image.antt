-- An image as it is read, and what is stored in it.
--
-- The main definition: `stored`.
use Rattle.std.specs.Prelude.{◌≡◌, ℕ, ◌+◌, ◌-◌, ◌%◌, ◌≤◌, bit_and, Bool, true, false, not, ◌&&◌, ◌==◌, nat_lt, nat_le, List, [], ◌∷◌, length, take, drop, find, Option, Some, None}
use Rattle.std.specs.Str.{bytes_eq}
use Rattle.host_layout.specs.declared.range.TheConstants.{PAGE}
use Rattle.pe_image.specs.declared.layout.TheConstants.{IMAGE_SCN_MEM_EXECUTE, IMAGE_SCN_MEM_READ, IMAGE_SCN_MEM_WRITE}
use Rattle.pe_image.specs.declared.directory.DataDirectory.{DataDirectory}

-- a section: its name of eight bytes, where it lies from the image base on, how many bytes it takes
-- there, those that the file stores of it from its front on (the others are 0), and its
-- characteristics
pub record Section : Type 0 where
  pub name : List ℕ
  pub address : ℕ
  pub size : ℕ
  pub raw : List ℕ
  pub flags : ℕ

-- an image: its base, its entry point, its size, its sections in their order, and two of its
-- directories
pub record Image : Type 0 where
  pub base : ℕ
  pub entry : ℕ  -- relative to the base, as are all addresses of sections and directories
  pub size : ℕ
  pub sections : List Section
  pub imports : DataDirectory
  pub exceptions : DataDirectory

-- the first section of a name
abbrev pub section_named : List ℕ → List Section → Option Section
section_named name ss = find (λ s. bytes_eq s.name name) ss

-- ---- what a section's characteristics allow (PE format, "Section Flags")

abbrev pub has_flag : ℕ → Section → Bool
has_flag mask s = not (bit_and s.flags mask == 0)

abbrev pub is_executable : Section → Bool
is_executable s = has_flag IMAGE_SCN_MEM_EXECUTE s

abbrev pub is_writable : Section → Bool
is_writable s = has_flag IMAGE_SCN_MEM_WRITE s

-- what may run or be written may be read too
abbrev pub is_readable : Section → Bool
is_readable s =
    has_flag (IMAGE_SCN_MEM_EXECUTE + IMAGE_SCN_MEM_READ + IMAGE_SCN_MEM_WRITE) s

-- ---- the order of sections

-- a section begins with a page, at or above the end of the one before, and what is stored of it
-- lies within its size
pub record IsPlacedAfter (end : ℕ) (s : Section) : Type 0 where
  pub above : end ≤ s.address
  pub aligned : s.address % PAGE ≡ 0
  pub stored : length s.raw ≤ s.size

abbrev pub AreAscending : ℕ → List Section → Type 0
AreAscending end [] = Unit {0}
AreAscending end (s ∷ ss) = IsPlacedAfter end s × AreAscending (s.address + s.size) ss

-- ---- what is stored

-- whether the byte at an address is stored in a section
abbrev pub stores_byte : ℕ → Section → Bool
stores_byte rva s = nat_le s.address rva && nat_lt rva (s.address + length s.raw)

abbrev pub section_or : Option Section → Section → Bool → Option Section
section_or others s true = Some s
section_or others s false = others

-- the section in which the byte at an address is stored
abbrev pub section_at : ℕ → List Section → Option Section
section_at rva [] = None
section_at rva (s ∷ ss) = section_or (section_at rva ss) s (stores_byte rva s)

-- the bytes that a section stores from an address on
abbrev pub stored_in : ℕ → Option Section → List ℕ
stored_in rva None = []
stored_in rva (Some s) = drop (rva - s.address) s.raw

abbrev pub only_if : List ℕ → Bool → Option (List ℕ)
only_if bytes true = Some bytes
only_if bytes false = None

abbrev pub whole : ℕ → List ℕ → Option (List ℕ)
whole n bytes = only_if bytes (length bytes == n)

-- the n bytes from an address on, where all of them are stored in one section
abbrev pub stored : List Section → ℕ → ℕ → Option (List ℕ)
stored ss rva n = whole n (take n (stored_in rva (section_at rva ss)))
