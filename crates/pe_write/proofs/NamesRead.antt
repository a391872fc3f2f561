-- The table of names that is written, read again.
use Rattle.std.proofs.Common.{◌≡◌, ℕ, zero, suc, ◌+◌, ◌-◌, ◌*◌, ◌^◌, ◌<◌, ◌≤◌, Bool, true, false, Some, None, Ok, List, [], ◌∷◌, ◌++◌, length, drop, get_or, append_assoc, refl, sym, ap, subst, ◌∙◌, arith}
use Rattle.std.specs.Prelude.{◌==◌, if◌then◌else◌, nat_le, nat_lt, option_map}
use Rattle.std.specs.List.{position_or_len, AllByRecursion}
use Rattle.std.proofs.lemmas.Bool.{and_from, ne_eqb, lt-ltb, le-leb}
use Rattle.std.proofs.lemmas.List.{append-nil, length-append, length-drop, drop-drop, drop_at}
use Rattle.std.proofs.lemmas.List.Sums.{position_or_len_is}
use Rattle.std.proofs.Math.Seq.{take-append_seam}
use Rattle.byteorder.specs.Endian.{little_number}
use Rattle.seh_num.specs.Answers.{unless, or_refused, prepend, ◌>>=◌}
use Rattle.pe_image.specs.Field.{field, is_there}
use Rattle.pe_image.specs.Image.{section_named}
use Rattle.pe_image.specs.Imports.{terminated}
use Rattle.pe_image.specs.NameRows.{NameSection, name_at, with_name, place_of, begin_in, end_in, number_in, name_in, row_in, in_order, row_at, rows_from, rows_of, names_in, names_of}
use Rattle.pe_image.specs.Numbers.{u32}
use Rattle.pe_image.specs.declared.layout.TheConstants.{SEHNAME_NAME}
use Rattle.pe_write.specs.NameTable.{NameRow, names_offset, names_size, name_table_size, row_bytes, rows_bytes, names_bytes, counted_bytes, name_table_bytes, IsNameRow, AreInOrder, AreNames}
use Rattle.pe_write.specs.Program.{ImageContents, CanBeImage, sizes_of, names_at, if_named, data_read, text_read, rdata_read, xdata_read, pdata_read, names_read, image_of}
use Rattle.pe_write.proofs.NameTables.{row_length, count_length, rows_length, counted_length}
use Rattle.pe_write.proofs.Rows.{four_is}
use Rattle.pe_write.proofs.Tables.{ended}

-- ---- one row

module _ (r : NameRow) (at : ℕ) (rest : List ℕ) where
  begin_there : r.begin < 2 ^ 32 → field 4 (row_bytes at r ++ rest) 0 ≡ r.begin
  unfolding row_bytes u32
  begin_there lt = four_is r.begin lt

  end_there : r.end < 2 ^ 32 → field 4 (row_bytes at r ++ rest) 4 ≡ r.end
  unfolding row_bytes u32
  end_there lt = four_is r.end lt

  number_there : r.number < 2 ^ 32 → field 4 (row_bytes at r ++ rest) 8 ≡ r.number
  unfolding row_bytes u32
  number_there lt = four_is r.number lt

  address_there : at < 2 ^ 32 → field 4 (row_bytes at r ++ rest) 12 ≡ at
  unfolding row_bytes u32
  address_there lt = four_is at lt

count_there : (n : ℕ) (rest : List ℕ) → n < 2 ^ 32 → field 4 (u32 n ++ rest) 0 ≡ n
unfolding u32
count_there n rest lt = four_is n lt

-- ---- one name

some_at : (xs rest : List ℕ) (k : ℕ) → AllByRecursion (λ (b : ℕ). 0 < b) xs → k < length xs
    → (get_or (xs ++ 0 ∷ rest) k 0 == 0) ≡ false
some_at [] rest k all lt = absurd (omega arith)
some_at (x ∷ xs) rest zero all lt = ne_eqb x 0 (λ e. absurd (let some = all.0 in omega arith))
some_at (x ∷ xs) rest (suc k) all lt = some_at xs rest k all.1 (omega arith)

zero_at : (xs rest : List ℕ) → (get_or (xs ++ 0 ∷ rest) (length xs) 0 == 0) ≡ true
zero_at [] rest = refl
zero_at (x ∷ xs) rest = zero_at xs rest

zero_after : (xs rest : List ℕ) → AllByRecursion (λ (b : ℕ). 0 < b) xs
    → position_or_len (λ x. x == 0) (xs ++ 0 ∷ rest) ≡ length xs
zero_after xs rest all =
    position_or_len_is (λ x. x == 0) (xs ++ 0 ∷ rest) (length xs) 0
    (omega (arith, length-append xs (0 ∷ rest))) (λ k lt. some_at xs rest k all lt)
    (λ lt. zero_at xs rest)

name_ended : (name rest : List ℕ) → AllByRecursion (λ (b : ℕ). 0 < b) name
    → terminated (name ++ 0 ∷ rest) ≡ Some name
name_ended name rest all =
    ended (name ++ 0 ∷ rest) (length name) (zero_after name rest all)
    (omega (arith, length-append name (0 ∷ rest)))
    ∙ ap (λ (xs : List ℕ). Some xs) (take-append_seam name (0 ∷ rest))

-- ---- all rows

module _ (s : NameSection) where
  abbrev b : List ℕ
  b = s.raw

  -- past so many bytes of what is there
  past : (k n : ℕ) (xs ys : List ℕ) → drop k b ≡ xs ++ ys → length xs ≡ n → drop (k + n) b ≡ ys
  past k n xs ys e long = sym (drop-drop n k b) ∙ ap (drop n) e ∙ drop_at xs ys n long

  field_past : (k n : ℕ) (xs : List ℕ) → drop k b ≡ xs → field 4 b (k + n) ≡ field 4 xs n
  field_past k n xs e = ap (little_number 4) (sym (drop-drop n k b) ∙ ap (drop n) e)

  module _ (q : NameRow) (index last at : ℕ) (x y : List ℕ) (is : IsNameRow q)
      (after : last ≤ q.begin) (above : s.address ≤ at) (low : at < 2 ^ 32)
      (row : drop (place_of index) b ≡ row_bytes at q ++ x)
      (name : drop (at - s.address) b ≡ q.name ++ 0 ∷ y) where
    whole : is_there b (place_of index) 16 ≡ true
    whole = le-leb (place_of index + 16) (length b) (omega (
      arith,
      ap length row,
      length-drop (place_of index) b,
      length-append (row_bytes at q) x,
      row_length at q,
    ))

    begins : begin_in s (place_of index) ≡ q.begin
    begins =
        ap (little_number 4) row ∙ begin_there q at x (let l = is.range in let e = is.end in
        omega arith)

    ends : end_in s (place_of index) ≡ q.end
    ends = field_past (place_of index) 4 (row_bytes at q ++ x) row ∙ end_there q at x is.end

    numbered : number_in s (place_of index) ≡ q.number
    numbered = field_past (place_of index) 8 (row_bytes at q ++ x) row
        ∙ number_there q at x is.number

    addressed : field 4 b (place_of index + 12) ≡ at
    addressed = field_past (place_of index) 12 (row_bytes at q ++ x) row ∙ address_there q at x low

    named : name_in s (place_of index) ≡ Some q.name
    named =
        ap (name_at s) addressed
        ∙ ap (λ (t : Bool). if t then terminated (drop (at - s.address) b) else None)
        (le-leb s.address at above)
        ∙ ap terminated name ∙ name_ended q.name y is.name

    read : row_in s (place_of index) ≡ Some q
    read =
        ap (option_map (with_name (begin_in s (place_of index)) (end_in s (place_of index))
        (number_in s (place_of index)))) named
        ∙ (λ i. Some (with_name (begins i) (ends i) (numbered i) q.name))

    row_is : row_at s index last ≡ Some q
    row_is =
        ap (λ (t : Bool). if t then in_order last (row_in s (place_of index)) else None) whole
        ∙ ap (in_order last) read
        ∙ ap (λ (t : Bool). if t then Some q else None)
        (and_from (nat_le last q.begin) (nat_lt q.begin q.end) (le-leb last q.begin after)
        (lt-ltb q.begin q.end is.range))

  rows : (qs : List NameRow) (index last at : ℕ) (x y : List ℕ) → AllByRecursion IsNameRow qs
      → AreInOrder last qs → s.address ≤ at → at + names_size qs < 2 ^ 32
      → drop (place_of index) b ≡ rows_bytes at qs ++ x
      → drop (at - s.address) b ≡ names_bytes qs ++ y
      → rows_from s (length qs) index last ≡ Ok qs
  unfolding rows_from
  rows [] index last at x y each order above low row name = refl
  rows (q ∷ qs) index last at x y each order above low row name =
      let next = at + length q.name + 1 in
      let row' = row ∙ append_assoc (row_bytes at q) (rows_bytes next qs) x in
      let name' = name ∙ append_assoc q.name (0 ∷ names_bytes qs) y in
      let name'' : drop (at - s.address) b ≡ (q.name ++ (0 ∷ [])) ++ (names_bytes qs ++ y) =
      name' ∙ sym (append_assoc q.name (0 ∷ []) (names_bytes qs ++ y)) in
      let further : next - s.address ≡ at - s.address + (length q.name + 1) = omega arith in
      let placed : place_of (index + 1) ≡ place_of index + 16 = omega arith in
      let others = rows qs (index + 1) q.end next x y each.1 order.1 (omega arith) (omega arith)
      (ap (λ (n : ℕ). drop n b) placed
      ∙ past (place_of index) 16 (row_bytes at q) (rows_bytes next qs ++ x) row'
      (row_length at q))
      (ap (λ (n : ℕ). drop n b) further
      ∙ past (at - s.address) (length q.name + 1) (q.name ++ (0 ∷ [])) (names_bytes qs ++ y) name''
      (length-append q.name (0 ∷ []))) in
      ap (λ o. or_refused o (record { row = index })
      >>= λ row. prepend row (rows_from s (length qs) (index + 1) row.end))
      (row_is q index last at (rows_bytes next qs ++ x) (names_bytes qs ++ y) each.0 order.0 above
      (omega arith) row' name')
      ∙ ap (prepend q) others

-- the rows of a table that begins at an address
pub counted_read : (qs : List NameRow) (base : ℕ) → AreNames qs
    → base + names_offset qs + names_size qs < 2 ^ 32
    → rows_of (record { address = base; raw = counted_bytes qs base }) ≡ Ok qs
unfolding counted_bytes
counted_read qs base are low =
    let at = base + names_offset qs in
    let bytes = counted_bytes qs base in
    let s : NameSection = record { address = base; raw = bytes } in
    let split : bytes ≡ u32 (length qs) ++ (rows_bytes at qs ++ names_bytes qs) =
    append_assoc (u32 (length qs)) (rows_bytes at qs) (names_bytes qs) in
    let long = counted_length qs base in
    let some : is_there bytes 0 4 ≡ true = le-leb 4 (length bytes) (omega (arith, long)) in
    let count : field 4 bytes 0 ≡ length qs =
    ap (λ (xs : List ℕ). field 4 xs 0) split
    ∙ count_there (length qs) (rows_bytes at qs ++ names_bytes qs) (omega arith) in
    let front : drop 4 bytes ≡ rows_bytes at qs ++ names_bytes qs = ap (drop 4) split
    ∙ drop_at (u32 (length qs)) (rows_bytes at qs ++ names_bytes qs) 4 (count_length (length qs)) in
    let back : drop (at - base) bytes ≡ names_bytes qs ++ [] =
    ap (λ (n : ℕ). drop n bytes) (let e : at - base ≡ 4 + 16 * length qs = omega arith in e)
    ∙ past s 4 (16 * length qs) (rows_bytes at qs) (names_bytes qs) front (rows_length at qs)
    ∙ sym (append-nil (names_bytes qs)) in
    ap (λ (t : Bool). unless t (record { row = 0 })
    >>= λ _. rows_from s (field 4 bytes 0) 0 0) some
    ∙ ap (λ (n : ℕ). rows_from s n 0 0) count
    ∙ rows s qs 0 0 at (names_bytes qs) [] are.each are.order (omega arith) (omega arith) front back

-- the names of an image that is written
pub names_are : (p : ImageContents) → CanBeImage p → AreNames p.names
    → names_of (image_of p) ≡ Ok p.names
unfolding names_of
names_are p fits are = by p.names refl
  where
    by : (rows : List NameRow) → rows ≡ p.names
        → names_in (section_named SEHNAME_NAME (data_read p ∷ text_read p ∷ rdata_read p
        ∷ xdata_read p ∷ pdata_read p ∷ if_named rows (names_read p))) ≡ Ok rows
    by [] e = refl
    by (r ∷ rs) e =
        let base = names_at (sizes_of p) in
        let size = ap name_table_size e in
        let end = fits.end in
        ap (λ (qs : List NameRow). rows_of (record {
          address = base;
          raw = name_table_bytes qs base;
        })) (sym e)
        ∙ counted_read (r ∷ rs) base (subst AreNames (sym e) are) (omega arith)
