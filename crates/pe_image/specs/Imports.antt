-- What an image imports (PE format, "The .idata Section"): its libraries in their order, and the
-- names of each in theirs. Each definition answers what it reads, or refuses the import at which it
-- can't continue, by its index over all libraries.
--
-- The main definition: `imports`.
use Rattle.std.specs.Prelude.{ℕ, zero, suc, ◌+◌, Bool, true, false, ◌&&◌, ◌==◌, nat_lt, nat_le, List, [], length, take, drop, position, option_map, option_and_then, Option, Some, None, Result, Ok, Err}
use Rattle.byteorder.specs.Endian.{little_number}
use Rattle.pe_image.specs.declared.layout.TheConstants.{DESCRIPTOR_SIZE, IMPORT_LOOKUP_TABLE, TIME_DATE_STAMP, FORWARDER_CHAIN, LIBRARY_NAME, IMPORT_ADDRESS_TABLE, LOOKUP_ENTRY_SIZE, IMAGE_ORDINAL_FLAG64, HINT_SIZE, ADDRESS_COUNT}
use Rattle.pe_image.specs.declared.directory.DataDirectory.{DataDirectory}
use Rattle.pe_image.specs.declared.refusal.ImageErr.{ImageErr}
use Rattle.pe_image.specs.declared.refusal.ImageErr.TheVariants as refusals
use Rattle.seh_num.specs.Answers.{or_refused, prepend, onto, ◌>>=◌}
use Rattle.pe_image.specs.Field.{field}
use Rattle.pe_image.specs.Image.{Section, Image, section_at, stored_in, stored}

-- a name, and where the address of what it names is to be put
pub record Import : Type 0 where
  pub name : List ℕ
  pub slot : ℕ

-- ---- one import

-- up to the first 0
abbrev pub terminated : List ℕ → Option (List ℕ)
terminated bytes = option_map (λ n. take n bytes) (position (λ b. b == 0) bytes)

-- a name follows a hint
abbrev pub unless_short : Option (List ℕ) → Bool → Option (List ℕ)
unless_short name true = name
unless_short name false = None

abbrev pub hinted : List ℕ → Option (List ℕ)
hinted bytes =
    unless_short (terminated (drop HINT_SIZE bytes)) (nat_le HINT_SIZE (length bytes))

abbrev pub name_at : List Section → ℕ → Option (List ℕ)
name_at ss rva = hinted (stored_in rva (section_at rva ss))

abbrev pub with_slot : ℕ → List ℕ → List ℕ → Option Import
with_slot slot name bytes = Some (record { name = name; slot = slot })

-- by its entry in the lookup table, which can be an ordinal
abbrev pub unless_ordinal : Option Import → Bool → Option Import
unless_ordinal import true = import
unless_ordinal import false = None

abbrev pub import_at : List Section → ℕ → ℕ → Option Import
import_at ss slot entry =
    unless_ordinal (option_and_then (λ name. option_and_then (with_slot slot name)
    (stored ss slot LOOKUP_ENTRY_SIZE)) (name_at ss entry)) (nat_lt entry IMAGE_ORDINAL_FLAG64)

-- ---- one library

-- there are at most as many entries and libraries as addresses
abbrev pub max_count : ℕ
max_count = ADDRESS_COUNT

abbrev pub next_entry : List Section → ℕ → ℕ → Result (List Import) ImageErr → ℕ
    → Result (List Import) ImageErr
next_entry ss index slot others zero = Ok []
next_entry ss index slot others (suc k) = do
  i ← or_refused (import_at ss slot (suc k)) (refusals.ImportBad index)
  prepend i others

-- the entries from a place in the lookup table on, with their slots in the address table. An entry
-- of 0 ends them
unfoldable pub library : ℕ → List Section → ℕ → ℕ → ℕ → Result (List Import) ImageErr
library zero ss index look slot = Err (refusals.ImportBad index)
library (suc n) ss index look slot = do
  entry ← or_refused (stored ss look LOOKUP_ENTRY_SIZE) (refusals.ImportBad index)
  next_entry ss index slot
      (library n ss (index + 1) (look + LOOKUP_ENTRY_SIZE) (slot + LOOKUP_ENTRY_SIZE))
      (little_number LOOKUP_ENTRY_SIZE entry)

-- ---- all libraries

-- a descriptor: lookup table, two fields that aren't read, the library's name, and the address
-- table
abbrev pub is_zero : List ℕ → Bool
is_zero d =
    (field 4 d IMPORT_LOOKUP_TABLE == 0) && (field 4 d TIME_DATE_STAMP == 0) &&
    (field 4 d FORWARDER_CHAIN == 0) && (field 4 d LIBRARY_NAME == 0) &&
    (field 4 d IMPORT_ADDRESS_TABLE == 0)

-- a lookup table at 0 means the address table
abbrev pub lookups : ℕ → ℕ → ℕ
lookups zero slots = slots
lookups (suc k) slots = suc k

abbrev pub entries_of : List Section → ℕ → List ℕ → Result (List Import) ImageErr
entries_of ss index d =
    library max_count ss index
    (lookups (field 4 d IMPORT_LOOKUP_TABLE) (field 4 d IMPORT_ADDRESS_TABLE))
    (field 4 d IMPORT_ADDRESS_TABLE)

abbrev pub next_library : (List Import → Result (List Import) ImageErr)
    → Result (List Import) ImageErr → Bool → Result (List Import) ImageErr
next_library others these true = Ok []
next_library others these false = do
  xs ← these
  onto xs (others xs)

-- the descriptors from a place on. A zero descriptor ends them
unfoldable pub libraries : ℕ → List Section → ℕ → ℕ → Result (List Import) ImageErr
libraries zero ss index at = Err (refusals.ImportBad index)
libraries (suc n) ss index at = do
  d ← or_refused (stored ss at DESCRIPTOR_SIZE) (refusals.ImportBad index)
  next_library (λ xs. libraries n ss (index + length xs) (at + DESCRIPTOR_SIZE))
      (entries_of ss index d) (is_zero d)

-- an import directory of size 0 is none
abbrev pub unless_none : Result (List Import) ImageErr → Bool → Result (List Import) ImageErr
unless_none others true = Ok []
unless_none others false = others

abbrev pub imports_in : List Section → DataDirectory → Result (List Import) ImageErr
imports_in ss d = unless_none (libraries max_count ss 0 d.rva) (d.size == 0)

-- the names that an image imports with the addresses of their slots, library by library, or the
-- first import, by its index over all libraries, that can't be read (PE format, "The .idata
-- Section"). `outline` is the reading before them; `outline_alone` is it as an image that imports
-- nothing, as an unwinder reads it
abbrev pub imports : Image → Result (List Import) ImageErr
imports image = imports_in image.sections image.imports

-- how many there are, after so many of other libraries
abbrev pub counted : ℕ → Result (List Import) ImageErr → Result ℕ ImageErr
counted n (Ok xs) = Ok (n + length xs)
counted n (Err e) = Err e

-- those of an image that is read
abbrev pub or_none : Result (List Import) ImageErr → List Import
or_none (Ok xs) = xs
or_none (Err e) = []

abbrev pub imports_of : Image → List Import
imports_of image = or_none (imports image)
