-- What is left of the list of imports from a place on: the other entries of a lookup table, and
-- then those of the libraries after it.
--
-- The main definition: `left`.
use Rattle.std.specs.Prelude.{ℕ, ◌+◌, ◌-◌, ◌*◌, ◌≤◌, ◌<◌, ◌^◌, ◌==◌, List, [], ◌++◌, Option, Some, None, IfSome, Result, IsOk}
use Rattle.pe_image.specs.declared.layout.TheConstants.{DESCRIPTOR_SIZE, LOOKUP_ENTRY_SIZE}
use Rattle.pe_image.specs.declared.directory.DataDirectory.{DataDirectory}
use Rattle.pe_image.specs.declared.import_place.ImportPlace.{ImportPlace}
use Rattle.pe_image.specs.declared.import_place.LookupTable.{LookupTable}
use Rattle.pe_image.specs.declared.refusal.ImageErr.{ImageErr}
use Rattle.pe_image.specs.Image.{Section}
use Rattle.pe_image.specs.Imports.{Import, max_count, library, libraries, unless_none, or_none}

-- the entries of a lookup table that weren't read
abbrev pub entries : List Section → LookupTable → Result (List Import) ImageErr
entries ss t = library (max_count - t.read) ss 0 (t.lookups + LOOKUP_ENTRY_SIZE * t.read)
    (t.slots + LOOKUP_ENTRY_SIZE * t.read)

-- the libraries from a number on
abbrev pub others : List Section → DataDirectory → ℕ → Result (List Import) ImageErr
others ss d n =
    unless_none (libraries (max_count - n) ss 0 (d.rva + DESCRIPTOR_SIZE * n)) (d.size == 0)

abbrev pub table_left : List Section → Option LookupTable → List Import
table_left ss None = []
table_left ss (Some t) = or_none (entries ss t)

-- the imports from a place on: the other entries of a lookup table, and then those of the libraries
-- after it
abbrev pub left : List Section → ImportPlace → List Import
left ss p = table_left ss p.table ++ or_none (others ss p.directory p.library)

-- ---- they can be read

pub record CanReadTable (ss : List Section) (t : LookupTable) : Type 0 where
  pub lookups : t.lookups < 2 ^ 32
  pub slots : t.slots < 2 ^ 32
  pub read : t.read ≤ max_count
  pub entries : IsOk (entries ss t)

pub record CanReadOthers (ss : List Section) (d : DataDirectory) (n : ℕ) : Type 0 where
  pub number : n ≤ max_count
  pub others : IsOk (others ss d n)

pub record CanRead (ss : List Section) (p : ImportPlace) : Type 0 where
  pub table : IfSome p.table (CanReadTable ss)
  pub others : CanReadOthers ss p.directory p.library
