-- The table of names in the section `.sehname`: a count of 32 bits, then that many rows of four
-- such numbers (own). A row has the range of a part of a function's code, the function's number,
-- and the address of its name, which a 0 ends in the same section.
--
-- The main definitions: `rows_of`, `names_of`, `function_name`.
use Rattle.std.specs.Prelude.{ℕ, zero, suc, ◌+◌, ◌-◌, ◌*◌, ◌<◌, Bool, true, false, ◌&&◌, nat_lt, nat_le, nat_eq, if◌then◌else◌, List, [], ◌∷◌, drop, length, slice_index_or, option_map, Option, Some, None, Result, Ok, Err, ◌≡◌, IfSome}
use Rattle.std.specs.Ordering.{nat_cmp}
use Rattle.std.specs.BTreeMap.{BTreeMap, get}
use Rattle.seh_num.specs.Answers.{unless, or_refused, prepend, ◌>>=◌}
use Rattle.pe_image.specs.declared.layout.TheConstants.{SEHNAME_NAME, NAME_COUNT_SIZE, NAME_ROW_SIZE, NAME_ROW_END, NAME_ROW_NUMBER, NAME_ROW_NAME}
use Rattle.pe_image.specs.declared.name_table.NameErr.{NameErr}
use Rattle.pe_image.specs.Field.{field, is_there}
use Rattle.pe_image.specs.Image.{Section, Image, section_named}
use Rattle.pe_image.specs.Imports.{terminated}

pub record NameRow : Type 0 where
  pub begin : ℕ
  pub end : ℕ
  pub number : ℕ
  pub name : List ℕ

-- what a section stores, and where it lies from the image base on
pub record NameSection : Type 0 where
  pub address : ℕ
  pub raw : List ℕ

abbrev pub name_section : Section → NameSection
name_section s = record { address = s.address; raw = s.raw }

abbrev pub name_at : NameSection → ℕ → Option (List ℕ)
name_at s rva =
    if nat_le s.address rva then terminated (drop (rva - s.address) s.raw) else None

abbrev pub with_name : ℕ → ℕ → ℕ → List ℕ → NameRow
with_name begin end number name =
    record { begin = begin; end = end; number = number; name = name }

-- where the row of an index is in the section
abbrev pub place_of : ℕ → ℕ
place_of index = NAME_COUNT_SIZE + NAME_ROW_SIZE * index

-- the fields of a row: Begin, End, the number, and the address of the name
abbrev pub begin_in : NameSection → ℕ → ℕ
begin_in s at = field 4 s.raw at

abbrev pub end_in : NameSection → ℕ → ℕ
end_in s at = field 4 s.raw (at + NAME_ROW_END)

abbrev pub number_in : NameSection → ℕ → ℕ
number_in s at = field 4 s.raw (at + NAME_ROW_NUMBER)

abbrev pub name_in : NameSection → ℕ → Option (List ℕ)
name_in s at = name_at s (field 4 s.raw (at + NAME_ROW_NAME))

abbrev pub row_in : NameSection → ℕ → Option NameRow
row_in s at = option_map (with_name (begin_in s at) (end_in s at) (number_in s at)) (name_in s at)

-- a row with a range after the one before it
abbrev pub in_order : ℕ → Option NameRow → Option NameRow
in_order last None = None
in_order last (Some row) =
    if nat_le last row.begin && nat_lt row.begin row.end then Some row else None

-- the row of an index, which is stored whole
abbrev pub row_at : NameSection → ℕ → ℕ → Option NameRow
row_at s index last =
    if is_there s.raw (place_of index) NAME_ROW_SIZE
    then in_order last (row_in s (place_of index)) else None

-- so many rows from an index on, after a range that ends there
unfoldable pub rows_from : NameSection → ℕ → ℕ → ℕ → Result (List NameRow) NameErr
rows_from s zero index last = Ok []
rows_from s (suc n) index last = do
  row ← or_refused (row_at s index last) (record { row = index })
  prepend row (rows_from s n (index + 1) row.end)

-- the rows of a table of names, each a range of code with its function's number and name, or the
-- first by its index that isn't right. A row isn't right where it or its name isn't stored whole,
-- its range is empty, or it begins before the range before it ends. `row_holding` is the row whose
-- range holds an address, `name_of` the name in the first row with a number (own).
abbrev pub rows_of : NameSection → Result (List NameRow) NameErr
rows_of s = do
  _ ← unless (is_there s.raw 0 NAME_COUNT_SIZE) (record { row = 0 })
  rows_from s (field 4 s.raw 0) 0 0

-- those of the table in a section; without one there are none
abbrev pub names_in : Option Section → Result (List NameRow) NameErr
names_in None = Ok []
names_in (Some s) = rows_of (name_section s)

-- the rows of the table of names in an image's first section `.sehname`, or its first row that
-- isn't right; an image without such a section has none (own)
unfoldable pub names_of : Image → Result (List NameRow) NameErr
names_of image = names_in (section_named SEHNAME_NAME image.sections)

abbrev pub no_row : NameRow
no_row = record { begin = 0; end = 0; number = 0; name = [] }

-- the rows that were read
abbrev pub rows_read : Result (List NameRow) NameErr → List NameRow
rows_read (Ok rows) = rows
rows_read (Err e) = []

-- ---- what the rows say

-- the name of a number: that of its first row
abbrev pub name_or : Option (List ℕ) → List ℕ → Bool → Option (List ℕ)
name_or others name true = Some name
name_or others name false = others

abbrev pub name_of : ℕ → List NameRow → Option (List ℕ)
name_of number [] = None
name_of number (r ∷ rs) = name_or (name_of number rs) r.name (nat_eq r.number number)

-- the name of a number in an image. In a layout in which a loader mapped the image these are the
-- same definitions, of sections that have all of their size.
abbrev pub function_name : Image → ℕ → Option (List ℕ)
function_name image number = name_of number (rows_read (names_of image))

-- the row whose range holds an address
abbrev pub row_or : Option NameRow → NameRow → Bool → Option NameRow
row_or others row true = Some row
row_or others row false = others

abbrev pub row_holding : ℕ → List NameRow → Option NameRow
row_holding rva [] = None
row_holding rva (r ∷ rs) = row_or (row_holding rva rs) r (nat_le r.begin rva && nat_lt rva r.end)

-- the first row of each number, by its index
abbrev pub AreFirstRows : BTreeMap ℕ ℕ → List NameRow → Type 0
AreFirstRows firsts rows =
    (number : ℕ) → IfSome (get nat_cmp firsts number) (λ k. k < length rows)
    × (option_map (λ k. (slice_index_or rows k no_row).name) (get nat_cmp firsts number)
    ≡ name_of number rows)
