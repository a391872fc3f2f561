-- An image that is written is read again.
use Rattle.std.proofs.Common.{◌≡◌, ℕ, ◌+◌, ◌-◌, ◌*◌, ◌/◌, ◌%◌, ◌≤◌, ◌≢◌, min, true, ◌||◌, ◌==◌, leb, List, [], ◌∷◌, ◌++◌, length, take, drop, map, sum_by, replicate, Result, Ok, Err, refl, sym, ap, subst, ◌∙◌, append_assoc, arith, inl, inr}
use Rattle.std.specs.Global.{Vec}
use Rattle.std.specs.Prelude.{IfOk, OnOk}
use Rattle.std.specs.declared.alloc.AllocError.{AllocError}
use Rattle.std.specs.List.{flat_map, AllByRecursion}
use Rattle.std.proofs.lemmas.Bool.{and_from, or_left, or_right, le-leb, eq-eqb, cases_eq}
use Rattle.std.proofs.lemmas.List.{length-append, length-replicate, length-drop, drop-drop, drop_at, take-append-le, take_min}
use Rattle.std.proofs.lemmas.List.Sums.{sum_by-cons}
use Rattle.pe_image.proofs.Whole as one
use Rattle.pe_image.proofs.Whole.{in_file, whole_is}
use Rattle.pe_write.proofs.Below.{raw_below}
use Rattle.pe_write.proofs.Front.{front_of, front_length, count_is, entry_is, base_is, size_is, sections_at_is, imports_is, exceptions_is, headers_pass}
use Rattle.pe_write.proofs.Rows.{headers_read, rows, fields_length}
use Rattle.pe_image.specs.declared.image_layout.ImageLayout.TheVariants as layouts
use Rattle.pe_image.specs.declared.refusal.ImageErr.TheVariants as refusals
use Rattle.seh_num.specs.Answers.{◌>>=◌, unless}
use Rattle.pe_image.specs.Image.{Section}
use Rattle.pe_image.specs.Imports.{imports_of}
use Rattle.pe_image.specs.Reading.{image_size, headers_from, is_laid_out, all_laid_out, section_of, sections_of, image_end, reading, IsImage}
use Rattle.pe_image.specs.Numbers.{zeros}
use Rattle.pe_write.specs.Written.{SectionParts, ImageParts, PlacedSection, pages, raw_size, placed, end_of, section_fields, section_header, section_table, table_of, raw_data, written, IsSection, CanBeWritten, sections_read, image_read}

-- ---- the sections after it

pub raw_length : (s : SectionParts) → length (raw_data s) ≡ raw_size s
unfolding raw_data zeros
raw_length s = omega (
  arith,
  length-append s.bytes (replicate (raw_size s - length s.bytes) 0),
  length-replicate {A = ℕ} (raw_size s - length s.bytes) 0,
)

data_length : (ss : List SectionParts) → AllByRecursion IsSection ss
    → length (flat_map raw_data ss) ≤ sum_by (λ s. pages s.size) ss
data_length [] fits = omega arith
data_length (s ∷ ss) fits =
    let one = raw_below s fits.0 in
    let others = data_length ss fits.1 in
    let all = sum_by-cons (λ s. pages s.size) s ss in
    omega (arith, length-append (raw_data s) (flat_map raw_data ss), raw_length s)

raw_more : (b : List ℕ) (raw_at : ℕ) (s : SectionParts) (ss : List SectionParts)
    → drop raw_at b ≡ flat_map raw_data (s ∷ ss)
    → drop (raw_at + raw_size s) b ≡ flat_map raw_data ss
raw_more b raw_at s ss e =
    sym (drop-drop (raw_size s) raw_at b) ∙ ap (drop (raw_size s)) e
    ∙ drop_at (raw_data s) (flat_map raw_data ss) (raw_size s) (raw_length s)

raw_within : (b : List ℕ) (raw_at : ℕ) (s : SectionParts) (ss : List SectionParts)
    → drop raw_at b ≡ flat_map raw_data (s ∷ ss)
    → ((raw_size s == 0) || leb (raw_at + raw_size s) (length b)) ≡ true
raw_within b raw_at s ss e = elim (cases_eq (raw_size s) 0) [
  | inl none ↦ or_left _ _ (eq-eqb (raw_size s) 0 none)
  | inr some ↦
      let both : length b - raw_at ≡ length (raw_data s ++ flat_map raw_data ss) = sym
      (length-drop raw_at b) ∙ ap length e in
      let sum : length (raw_data s ++ flat_map raw_data ss)
      ≡ raw_size s + length (flat_map raw_data ss) = length-append (raw_data s)
      (flat_map raw_data ss) ∙ ap (λ n. n + length (flat_map raw_data ss)) (raw_length s) in
      or_right (raw_size s == 0) _ (le-leb (raw_at + raw_size s) (length b)
      (passes (raw_size s) (length b) raw_at (length (flat_map raw_data ss)) some (both ∙ sum)))
]
  where
    passes : (n file at more : ℕ) → n ≢ 0 → file - at ≡ n + more → at + n ≤ file
    passes n file at more ne e = omega arith

laid_out : (b : List ℕ) (limit index end address page raw_at : ℕ) (ss : List SectionParts)
    → address ≡ 4096 * page → end ≤ address → address + sum_by (λ s. pages s.size) ss ≤ limit
    → drop raw_at b ≡ flat_map raw_data ss
    → all_laid_out (length b) limit index end (headers_read (placed address raw_at ss)) ≡ Ok tt
laid_out b limit index end address page raw_at [] whole up below e = refl
laid_out b limit index end address page raw_at (s ∷ ss) whole up below e =
    let all = sum_by-cons (λ s. pages s.size) s ss in
    let one = raw_within b raw_at s ss e in
    let two : (address % 4096 == 0) ≡ true = eq-eqb (address % 4096) 0 (omega arith) in
    let fits : is_laid_out (length b) limit end
    (record {
      name = s.name;
      size = s.size;
      address = address;
      raw_size = raw_size s;
      raw_at = raw_at;
      flags = s.flags;
    }) ≡ true =
    and_from _ _ (and_from _ _ (and_from _ _ one two) (le-leb end address up))
    (le-leb (address + s.size) limit (omega arith)) in
    ap (λ t. unless t (refusals.Layout index)
    >>= λ _. all_laid_out (length b) limit (index + 1) (address + s.size)
    (headers_read (placed (address + pages s.size) (raw_at + raw_size s) ss))) fits
    ∙ laid_out b limit (index + 1) (address + s.size) (address + pages s.size)
    (page + (s.size + 4095) / 4096) (raw_at + raw_size s) ss (omega arith) (omega arith)
    (omega arith) (raw_more b raw_at s ss e)

raw_again : (b : List ℕ) (raw_at : ℕ) (s : SectionParts) (ss : List SectionParts)
    → drop raw_at b ≡ flat_map raw_data (s ∷ ss)
    → take (min s.size (raw_size s)) (drop raw_at b) ≡ take s.size (raw_data s)
raw_again b raw_at s ss e =
    ap (take (min s.size (raw_size s))) e
    ∙ take-append-le (min s.size (raw_size s)) (raw_data s) (flat_map raw_data ss)
    (omega (arith, raw_length s))
    ∙ ap (λ n. take (min s.size n) (raw_data s)) (sym (raw_length s))
    ∙ take_min s.size (raw_data s)

sections_again : (b : List ℕ) (address raw_at : ℕ) (ss : List SectionParts)
    → drop raw_at b ≡ flat_map raw_data ss → map (section_of b)
    (headers_read (placed address raw_at ss)) ≡ sections_read (placed address raw_at ss)
sections_again b address raw_at [] e = refl
sections_again b address raw_at (s ∷ ss) e =
    let raw = raw_again b raw_at s ss e in
    let others = sections_again b (address + pages s.size) (raw_at + raw_size s) ss
    (raw_more b raw_at s ss e) in
    λ i. record {
      name = s.name;
      address = address;
      size = s.size;
      raw = raw i;
      flags = s.flags;
    } ∷ others i

-- ---- the whole

zeros_length : (n : ℕ) → length (zeros n) ≡ n
unfolding zeros
zeros_length n = length-replicate {A = ℕ} n 0

rounded : (n m : ℕ) → n ≡ m → m ≤ (n + 4095) / 4096 * 4096
rounded n m e = omega arith

module _ (image : ImageParts) (fits : CanBeWritten image) where
  abbrev tail : List ℕ
  tail = zeros (696 - 40 * length image.sections) ++ flat_map raw_data image.sections

  abbrev ps : List PlacedSection
  ps = placed 0x1000 1024 image.sections

  parts : written image ≡ front_of image ++ (section_table ps ++ tail)
  unfolding written
  parts =
      append_assoc (front_of image) (table_of image) (flat_map raw_data image.sections)
      ∙ ap (λ (t : List ℕ). front_of image ++ t)
      (append_assoc (section_table ps) (zeros (696 - 40 * length image.sections))
      (flat_map raw_data image.sections))

  table_length : (address raw_at : ℕ) (ss : List SectionParts) → AllByRecursion IsSection ss
      → length (section_table (placed address raw_at ss)) ≡ 40 * length ss
  table_length address raw_at [] h = refl
  table_length address raw_at (s ∷ ss) h =
      let p : PlacedSection = record { parts = s; address = address; raw_at = raw_at } in
      let others = table_length (address + pages s.size) (raw_at + raw_size s) ss h.1 in
      omega (
        arith,
        length-append (section_header p)
            (section_table (placed (address + pages s.size) (raw_at + raw_size s) ss)),
        length-append s.name (section_fields p),
        h.0.name,
        fields_length p,
      )

  headers_length : length (front_of image ++ table_of image) ≡ 1024
  headers_length =
      let count = fits.table in
      let pad = 696 - 40 * length image.sections in
      omega (
        arith,
        length-append (front_of image) (table_of image),
        front_length image,
        length-append (section_table ps) (zeros pad),
        table_length 0x1000 1024 image.sections fits.sections,
        zeros_length pad,
      )

  whole_length : length (written image) ≡ 1024 + length (flat_map raw_data image.sections)
  unfolding written
  whole_length = let h = headers_length in omega
      (arith, length-append (front_of image ++ table_of image) (flat_map raw_data image.sections))

  -- the file takes no more bytes than the image
  pub written_length : length (written image) ≤ end_of image.sections
  written_length = let e = whole_length in let h = data_length image.sections fits.sections in
      omega arith

  data_there : drop 1024 (written image) ≡ flat_map raw_data image.sections
  unfolding written
  data_there = drop_at (front_of image ++ table_of image) (flat_map raw_data image.sections) 1024
      headers_length

  long : 1024 ≤ length (front_of image ++ (section_table ps ++ tail))
  unfolding written
  long =
      let same = ap length parts in
      omega (
        arith,
        same,
        headers_length,
        length-append (front_of image ++ table_of image)
            (flat_map raw_data image.sections),
      )

  abbrev b : List ℕ
  b = front_of image ++ (section_table ps ++ tail)

  sections_are : sections_of b (image_end b) (headers_from b (length image.sections)
      (length (front_of image))) ≡ Ok (sections_read ps)
  sections_are =
      let there : drop 1024 b ≡ flat_map raw_data image.sections = ap (drop 1024) (sym parts)
      ∙ data_there in
      let inside = rounded (image_size b) (end_of image.sections)
      (size_is image fits (section_table ps ++ tail) long) in
      ap (sections_of b (image_end b)) (rows (front_of image) 0x1000 1024 image.sections tail
      fits.sections fits.end (omega arith))
      ∙ ap (λ r. r >>= λ _. Ok (map (section_of b) (headers_read ps)))
      (laid_out b (image_end b) 0 0 0x1000 1 1024 image.sections refl (omega arith) inside there)
      ∙ ap (λ (ss : List Section). Ok ss) (sections_again b 0x1000 1024 image.sections there)

  read_parts : reading b ≡ Ok (image_read image)
  read_parts =
      let rest = section_table ps ++ tail in
      sym (in_file b)
      ∙ sym (whole_is layouts.File b image.imports (headers_pass image fits rest long)
      (sym (imports_is image fits rest long)))
      ∙ one.is_read layouts.File b image.imports (image_end b) (length image.sections)
      (length (front_of image)) refl (sym (count_is image fits rest long))
      (front_length image ∙ sym (sections_at_is image fits rest long)) (sections_read ps)
      sections_are (sections_read ps) (imports_of (image_read image)) 0x140000000 image.entry
      (end_of image.sections) image.exceptions refl fits.imported
      (sym (base_is image fits rest long)) (sym (entry_is image fits rest long))
      (sym (size_is image fits rest long)) (sym (exceptions_is image fits rest long))

  pub read_again : IsImage (written image) (image_read image)
  read_again = ap reading parts ∙ read_parts

pub is_read : (image : ImageParts) (r : Result (Vec ℕ) AllocError) → OnOk r (CanBeWritten image)
    → IfOk r (λ bytes. bytes.items ≡ written image)
    → IfOk r (λ bytes. IsImage bytes.items (image_read image))
is_read image (Ok v) fits same = subst (λ (bytes : List ℕ). IsImage bytes (image_read image))
    (sym same) (read_again image fits)
is_read image (Err e) fits same = tt
