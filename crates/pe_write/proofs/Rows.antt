-- The section table that is written, read again.
use Rattle.std.proofs.Common.{◌≡◌, ℕ, zero, suc, ◌+◌, ◌*◌, ◌/◌, ◌%◌, ◌^◌, ◌<◌, ◌≤◌, ◌≢◌, List, [], ◌∷◌, ◌++◌, length, take, drop, sum_by, refl, sym, ap, ◌∙◌, append_assoc, arith, inl, inr}
use Rattle.std.specs.List.{AllByRecursion}
use Rattle.std.proofs.lemmas.Bool.{cases_eq}
use Rattle.std.proofs.lemmas.List.{length-append, drop-drop, drop_at}
use Rattle.std.proofs.lemmas.List.Sums.{sum_by-cons}
use Rattle.std.proofs.Math.Seq.{take-append_seam}
use Rattle.byteorder.specs.Endian.{little_number}
use Rattle.pe_write.proofs.Below.{raw_below}
use Rattle.pe_image.specs.declared.table.SectionHeader.{SectionHeader}
use Rattle.pe_image.specs.Field.{field}
use Rattle.pe_image.specs.Reading.{size_of, header_at, headers_from}
use Rattle.pe_image.specs.Numbers.{u32, zeros}
use Rattle.pe_write.specs.Written.{SectionParts, PlacedSection, pages, raw_size, placed, section_fields, section_header, section_table, IsSection}

-- ---- numbers of four bytes

abbrev pub four : ℕ → ℕ
four n = n % 256 + 256 * (n / 256 % 256 + 256 *
    (n / 65536 % 256 + 256 * (n / 16777216 % 256 + 256 * 0)))

pub four_is : (n : ℕ) → n < 2 ^ 32 → four n ≡ n
four_is n lt = omega arith

-- ---- the section table

-- a field after a front
field_after : (n : ℕ) (front rest : List ℕ) (k : ℕ)
    → field n (front ++ rest) (length front + k) ≡ field n rest k
field_after n front rest k = ap (little_number n)
    (sym (drop-drop k (length front) (front ++ rest))
    ∙ ap (drop k) (drop_at front rest (length front) refl))

module _ (s : PlacedSection) (rest : List ℕ) where
  size_there : s.parts.size < 2 ^ 32 → field 4 (section_fields s ++ rest) 0 ≡ s.parts.size
  unfolding section_fields u32
  size_there lt = four_is s.parts.size lt

  address_there : s.address < 2 ^ 32 → field 4 (section_fields s ++ rest) 4 ≡ s.address
  unfolding section_fields u32
  address_there lt = four_is s.address lt

  raw_size_there : raw_size s.parts < 2 ^ 32 → field 4 (section_fields s ++ rest) 8
      ≡ raw_size s.parts
  unfolding section_fields u32
  raw_size_there lt = four_is (raw_size s.parts) lt

  raw_at_there : s.raw_at < 2 ^ 32 → field 4 (section_fields s ++ rest) 12 ≡ s.raw_at
  unfolding section_fields u32
  raw_at_there lt = four_is s.raw_at lt

  flags_there : s.parts.flags < 2 ^ 32 → field 4 (section_fields s ++ rest) 28 ≡ s.parts.flags
  unfolding section_fields u32 zeros
  flags_there lt = four_is s.parts.flags lt

-- a size of 0 has no raw data
size_again : (s : SectionParts) → IsSection s → size_of s.size (raw_size s) ≡ s.size
size_again s fits = elim (cases_eq s.size 0) [
  | inl none ↦ ap (λ n. size_of n (raw_size s)) none ∙ (let h = fits.stored in omega arith)
  | inr some ↦ by_size s.size (raw_size s) some
]
  where
    by_size : (n r : ℕ) → n ≢ 0 → size_of n r ≡ n
    by_size zero r ne = absurd (ne refl)
    by_size (suc n) r ne = refl

abbrev pub headers_read : List PlacedSection → List SectionHeader
headers_read [] = []
headers_read (s ∷ ss) = record {
  name = s.parts.name;
  size = s.parts.size;
  address = s.address;
  raw_size = raw_size s.parts;
  raw_at = s.raw_at;
  flags = s.parts.flags;
} ∷ headers_read ss

-- a row of the section table, after a front
module _ (s : PlacedSection) (fits : IsSection s.parts) (size : s.parts.size < 2 ^ 32)
    (address : s.address < 2 ^ 32) (raw : raw_size s.parts < 2 ^ 32) (raw_at : s.raw_at < 2 ^ 32)
    (front rest : List ℕ) where
  at_field : (k n : ℕ) → n ≡ 8 + k → field 4 (front ++ (section_header s ++ rest))
      (length front + n) ≡ field 4 (section_fields s ++ rest) k
  at_field k n e =
      let split : front ++ (section_header s ++ rest)
      ≡ (front ++ s.parts.name) ++ (section_fields s ++ rest) = ap (λ (t : List ℕ). front ++ t)
      (append_assoc s.parts.name (section_fields s) rest)
      ∙ sym (append_assoc front s.parts.name (section_fields s ++ rest)) in
      let place : length front + n ≡ length (front ++ s.parts.name)
      + k = omega (arith, length-append front s.parts.name, fits.name) in
      ap (λ (t : List ℕ). field 4 t (length front + n)) split
      ∙ ap (field 4 ((front ++ s.parts.name) ++ (section_fields s ++ rest))) place
      ∙ field_after 4 (front ++ s.parts.name) (section_fields s ++ rest) k

  name_there : take 8 (drop (length front) (front ++ (section_header s ++ rest))) ≡ s.parts.name
  name_there =
      ap (take 8) (drop_at front (section_header s ++ rest) (length front) refl
      ∙ append_assoc s.parts.name (section_fields s) rest)
      ∙ ap (λ n. take n (s.parts.name ++ (section_fields s ++ rest))) (sym fits.name)
      ∙ take-append_seam s.parts.name (section_fields s ++ rest)

  row_read : header_at (front ++ (section_header s ++ rest)) (length front)
      ≡ record {
        name = s.parts.name;
        size = s.parts.size;
        address = s.address;
        raw_size = raw_size s.parts;
        raw_at = s.raw_at;
        flags = s.parts.flags;
      }
  row_read =
      let e1 = at_field 0 8 refl ∙ size_there s rest size in
      let e2 = at_field 8 16 refl ∙ raw_size_there s rest raw in
      let e3 = at_field 4 12 refl ∙ address_there s rest address in
      let e4 = at_field 12 20 refl ∙ raw_at_there s rest raw_at in
      let e5 = at_field 28 36 refl ∙ flags_there s rest fits.flags in
      let e6 = ap (λ n. size_of n (field 4 (front ++ (section_header s ++ rest))
      (length front + 16))) e1 ∙ ap (size_of s.parts.size) e2 ∙ size_again s.parts fits in
      λ i. record {
        name = name_there i;
        size = e6 i;
        address = e3 i;
        raw_size = e2 i;
        raw_at = e4 i;
        flags = e5 i;
      }

pub fields_length : (s : PlacedSection) → length (section_fields s) ≡ 32
unfolding section_fields u32 zeros
fields_length s = refl

pub rows : (front : List ℕ) (address raw_at : ℕ) (ss : List SectionParts) (rest : List ℕ)
    → AllByRecursion IsSection ss → address + sum_by (λ s. pages s.size) ss < 2 ^ 32
    → raw_at ≤ address
    → headers_from (front ++ (section_table (placed address raw_at ss) ++ rest)) (length ss)
    (length front) ≡ headers_read (placed address raw_at ss)
rows front address raw_at [] rest fits end below = refl
rows front address raw_at (s ∷ ss) rest fits end below =
    let all = sum_by-cons (λ s. pages s.size) s ss in
    let raw = raw_below s fits.0 in
    let p : PlacedSection = record { parts = s; address = address; raw_at = raw_at } in
    let ps = placed (address + pages s.size) (raw_at + raw_size s) ss in
    let more = section_table ps ++ rest in
    let split : front ++ (section_table (p ∷ ps) ++ rest)
    ≡ front ++ (section_header p ++ more) = ap (λ (t : List ℕ). front ++ t)
    (append_assoc (section_header p) (section_table ps) rest) in
    let next : length front + 40 ≡ length (front ++ section_header p) = omega (
      arith,
      length-append front (section_header p),
      length-append s.name (section_fields p),
      fits.0.name,
      fields_length p,
    ) in
    let here = row_read p fits.0 (omega arith) (omega arith) (omega arith) (omega arith) front
    more in
    let others : headers_from (front ++ (section_header p ++ more)) (length ss) (length front + 40)
    ≡ headers_read ps =
    ap (λ (t : List ℕ). headers_from t (length ss) (length front + 40))
    (sym (append_assoc front (section_header p) more))
    ∙ ap (headers_from ((front ++ section_header p) ++ more) (length ss)) next
    ∙ rows (front ++ section_header p) (address + pages s.size) (raw_at + raw_size s) ss rest fits.1
    (omega arith) (omega arith) in
    ap (λ (t : List ℕ). headers_from t (suc (length ss)) (length front)) split
    ∙ (λ i. here i ∷ others i)
