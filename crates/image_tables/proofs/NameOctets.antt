-- The bytes of the table of names are octets, where those of the names are.
use Rattle.std.proofs.Common.{ℕ, ◌+◌, List, [], ◌∷◌, ◌++◌, length, arith}
use Rattle.std.specs.List.{AllByRecursion}
use Rattle.pe_image.specs.Numbers.{u32}
use Rattle.pe_write.specs.NameTable.{NameRow, names_offset, row_bytes, rows_bytes, names_bytes, counted_bytes, name_table_bytes}
use Rattle.image_tables.specs.OctetLaws.{AreOctets}
use Rattle.image_tables.proofs.Octets.{joined, four_bytes}

abbrev pub HasOctetName : NameRow → Type 0
HasOctetName r = AreOctets r.name

row_octets : (at : ℕ) (r : NameRow) → AreOctets (row_bytes at r)
unfolding row_bytes
row_octets at r =
    joined (u32 r.begin ++ u32 r.end ++ u32 r.number) (u32 at)
    (joined (u32 r.begin ++ u32 r.end) (u32 r.number)
    (joined (u32 r.begin) (u32 r.end) (four_bytes r.begin) (four_bytes r.end))
    (four_bytes r.number))
    (four_bytes at)

rows_octets : (at : ℕ) (rows : List NameRow) → AreOctets (rows_bytes at rows)
rows_octets at [] = tt
rows_octets at (r ∷ rs) =
    joined (row_bytes at r) (rows_bytes (at + length r.name + 1) rs) (row_octets at r)
    (rows_octets (at + length r.name + 1) rs)

names_octets : (rows : List NameRow) → AllByRecursion HasOctetName rows
    → AreOctets (names_bytes rows)
names_octets [] all = tt
names_octets (r ∷ rs) all =
    joined r.name (0 ∷ names_bytes rs) all.0 (omega arith, names_octets rs all.1)

counted_octets : (rows : List NameRow) (base : ℕ) → AllByRecursion HasOctetName rows
    → AreOctets (counted_bytes rows base)
unfolding counted_bytes
counted_octets rows base all =
    let at = base + names_offset rows in
    joined (u32 (length rows) ++ rows_bytes at rows) (names_bytes rows)
    (joined (u32 (length rows)) (rows_bytes at rows) (four_bytes (length rows))
    (rows_octets at rows))
    (names_octets rows all)

pub name_table_octets : (rows : List NameRow) (base : ℕ) → AllByRecursion HasOctetName rows
    → AreOctets (name_table_bytes rows base)
name_table_octets [] base all = tt
name_table_octets (r ∷ rs) base all = counted_octets (r ∷ rs) base all
