-- The table of names of a written image, in its section `.sehname`: how many rows there are, the
-- rows with the ranges and the numbers of functions, and then the names, each ended by a 0 (own).
--
-- The main definitions: `name_table_bytes`, `AreNames`.
use Rattle.std.specs.Prelude.{ℕ, ◌+◌, ◌*◌, ◌^◌, ◌<◌, ◌≤◌, List, [], ◌∷◌, ◌++◌, length}
use Rattle.std.specs.List.{AllByRecursion}
use Rattle.pe_image.specs.declared.layout.TheConstants.{NAME_COUNT_SIZE, NAME_ROW_SIZE}
pub use Rattle.pe_image.specs.NameRows.{NameRow}
use Rattle.pe_image.specs.Numbers.{u32}

-- ---- how many bytes it takes

-- how far the names lie after its beginning, behind so many rows
abbrev pub names_offset : List NameRow → ℕ
names_offset rows = NAME_COUNT_SIZE + NAME_ROW_SIZE * length rows

abbrev pub names_size : List NameRow → ℕ
names_size [] = 0
names_size (r ∷ rs) = length r.name + 1 + names_size rs

-- without a row there is no section
abbrev pub name_table_size : List NameRow → ℕ
name_table_size [] = 0
name_table_size (r ∷ rs) = names_offset (r ∷ rs) + names_size (r ∷ rs)

-- ---- its bytes

-- a row whose name is at an address
unfoldable pub row_bytes : ℕ → NameRow → List ℕ
row_bytes at r = u32 r.begin ++ u32 r.end ++ u32 r.number ++ u32 at

-- the rows, of which the first has its name at an address
abbrev pub rows_bytes : ℕ → List NameRow → List ℕ
rows_bytes at [] = []
rows_bytes at (r ∷ rs) = row_bytes at r ++ rows_bytes (at + length r.name + 1) rs

abbrev pub names_bytes : List NameRow → List ℕ
names_bytes [] = []
names_bytes (r ∷ rs) = r.name ++ 0 ∷ names_bytes rs

-- rows and names with their count, where they begin at an address
unfoldable pub counted_bytes : List NameRow → ℕ → List ℕ
counted_bytes rows base =
    u32 (length rows) ++ rows_bytes (base + names_offset rows) rows ++ names_bytes rows

-- the table of names at an address: how many rows, the rows with range, number and address of the
-- name, and the names, each ended by a 0 (own)
abbrev pub name_table_bytes : List NameRow → ℕ → List ℕ
name_table_bytes [] base = []
name_table_bytes (r ∷ rs) base = counted_bytes (r ∷ rs) base

-- ---- what can be written

-- a name has no 0, and the numbers fit 32 bits
pub record IsNameRow (r : NameRow) : Type 0 where
  pub range : r.begin < r.end
  pub end : r.end < 2 ^ 32
  pub number : r.number < 2 ^ 32
  pub name : AllByRecursion (λ (b : ℕ). 0 < b) r.name

-- each range after an address, and after the one before it
abbrev pub AreInOrder : ℕ → List NameRow → Type 0
AreInOrder last [] = Unit {0}
AreInOrder last (r ∷ rs) = (last ≤ r.begin) × AreInOrder r.end rs

-- rows that are read again as they are: no range is empty or begins before the one before it ends,
-- and no name has a 0
pub record AreNames (rows : List NameRow) : Type 0 where
  pub each : AllByRecursion IsNameRow rows
  pub order : AreInOrder 0 rows
