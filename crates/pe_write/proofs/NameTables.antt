-- The table of names that is written: how long it is.
use Rattle.std.proofs.Common.{◌≡◌, ℕ, ◌+◌, ◌*◌, List, [], ◌∷◌, ◌++◌, length, refl, arith}
use Rattle.std.proofs.lemmas.List.{length-append}
use Rattle.pe_image.specs.Numbers.{u32}
use Rattle.pe_write.specs.NameTable.{NameRow, names_offset, names_size, name_table_size, row_bytes, rows_bytes, names_bytes, counted_bytes, name_table_bytes}

pub row_length : (at : ℕ) (r : NameRow) → length (row_bytes at r) ≡ 16
unfolding row_bytes u32
row_length at r = refl

pub count_length : (n : ℕ) → length (u32 n) ≡ 4
unfolding u32
count_length n = refl

pub rows_length : (at : ℕ) (rows : List NameRow) → length (rows_bytes at rows) ≡ 16 * length rows
rows_length at [] = refl
rows_length at (r ∷ rs) = omega (
  arith,
  length-append (row_bytes at r) (rows_bytes (at + length r.name + 1) rs),
  row_length at r,
  rows_length (at + length r.name + 1) rs,
)

pub all_names_length : (rows : List NameRow) → length (names_bytes rows) ≡ names_size rows
all_names_length [] = refl
all_names_length (r ∷ rs) = omega (
  arith,
  length-append r.name (0 ∷ names_bytes rs),
  all_names_length rs,
)

pub counted_length : (rows : List NameRow) (base : ℕ)
    → length (counted_bytes rows base) ≡ names_offset rows + names_size rows
unfolding counted_bytes
counted_length rows base =
    let at = base + names_offset rows in
    omega (
      arith,
      length-append (u32 (length rows) ++ rows_bytes at rows) (names_bytes rows),
      length-append (u32 (length rows)) (rows_bytes at rows),
      count_length (length rows),
      rows_length at rows,
      all_names_length rows,
    )

pub names_length : (rows : List NameRow) (base : ℕ)
    → length (name_table_bytes rows base) ≡ name_table_size rows
names_length [] base = refl
names_length (r ∷ rs) base = counted_length (r ∷ rs) base
