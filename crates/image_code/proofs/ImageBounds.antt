-- Where the sections and the slots of an image end that was read at a low base.
use Rattle.std.proofs.Common.{◌≡◌, ℕ, ◌+◌, ◌-◌, ◌%◌, ◌^◌, ◌<◌, ◌≤◌, Bool, true, false, ◌&&◌, ◌||◌, ◌==◌, ltb, leb, List, [], ◌∷◌, length, map, Result, Ok, Err, refl, sym, ap, subst, arith, length-drop}
use Rattle.std.specs.List.{AllByRecursion}
use Rattle.std.proofs.lemmas.Bool.{and_parts, leb-true}
use Rattle.host_layout.specs.Ranges.{pages}
use Rattle.host_layout.specs.declared.range.TheConstants.{PAGE}
use Rattle.host_layout.specs.declared.limit.TheConstants.{MOST_IMAGE, BASE_ALIGNMENT, LEAST_BASE, ADDRESSES_END}
use Rattle.seh_num.specs.Answers.{◌>>=◌, unless}
use Rattle.pe_image.specs.declared.refusal.ImageErr.{ImageErr}
use Rattle.pe_image.specs.declared.refusal.ImageErr.TheVariants as refusals
use Rattle.pe_image.specs.declared.table.SectionHeader.{SectionHeader}
use Rattle.pe_image.specs.Image.{Section, Image, AreAscending, stores_byte, section_or, section_at, stored_in}
use Rattle.pe_image.specs.Imports.{Import, imports, imports_of, or_none}
use Rattle.pe_image.specs.Reading.{IsImage, reading, outline, headers, headers_from, section_count, sections_at, image_end, image_size, image_with, is_laid_out, all_laid_out, section_of, sections_of}
use Rattle.pe_image.proofs.Sections.{sections_rise}
use Rattle.host_model.specs.Loading.{has_place}
use Rattle.host_model.proofs.Imported.{IsStored, slots_stored}

abbrev pub AreBelow : ℕ → List Section → Type 0
AreBelow end ss = AllByRecursion (λ s. s.address + s.size ≤ end) ss

-- ---- what is read

abbrev table : List ℕ → List SectionHeader
table bytes = headers_from bytes (section_count bytes) (sections_at bytes)

record IsOutline (bytes : List ℕ) (image : Image) : Type 0 where
  sections : sections_of bytes (image_end bytes) (table bytes) ≡ Ok image.sections
  size : image.size ≡ image_size bytes

record IsRead (bytes : List ℕ) (image : Image) : Type 0 where
  whole : outline bytes ≡ Ok image
  all : List Import
  imported : imports image ≡ Ok all

outlined : (bytes : List ℕ) (image : Image) → outline bytes ≡ Ok image → IsOutline bytes image
unfolding outline
outlined bytes image h = go (headers bytes) h
  where
    after : (r : Result (List Section) ImageErr)
        → sections_of bytes (image_end bytes) (table bytes) ≡ r
        → (r >>= λ ss. Ok (image_with bytes ss)) ≡ Ok image → IsOutline bytes image
    after (Ok ss) is h = let same : image_with bytes ss ≡ image = cc in
        subst (IsOutline bytes) same (record { sections = is; size = refl })
    after (Err e) is h = absurd cc

    go : (r : Result Unit ImageErr) → (r >>= λ _.
        sections_of bytes (image_end bytes) (table bytes) >>= λ ss. Ok (image_with bytes ss))
        ≡ Ok image → IsOutline bytes image
    go (Ok x) h = after (sections_of bytes (image_end bytes) (table bytes)) refl h
    go (Err e) h = absurd cc

is_read : (bytes : List ℕ) (image : Image) → IsImage bytes image → IsRead bytes image
unfolding reading
is_read bytes image h = go (outline bytes) refl h
  where
    after : (i : Image) (r : Result (List Import) ImageErr) → outline bytes ≡ Ok i
        → imports i ≡ r → (r >>= λ _. Ok i) ≡ Ok image → IsRead bytes image
    after i (Ok xs) whole is h = let same : i ≡ image = cc in
        subst (IsRead bytes) same (record { whole = whole; all = xs; imported = is })
    after i (Err e) whole is h = absurd cc

    go : (r : Result Image ImageErr) → outline bytes ≡ r
        → (r >>= λ i. imports i >>= λ _. Ok i) ≡ Ok image → IsRead bytes image
    go (Ok i) whole h = after i (imports i) whole refl h
    go (Err e) whole h = absurd cc

-- the sections of an image that was read
pub record HasSections (bytes : List ℕ) (image : Image) : Type 0 where
  pub limit : ℕ
  pub headers : List SectionHeader
  pub is : sections_of bytes limit headers ≡ Ok image.sections

pub sections_read : (bytes : List ℕ) (image : Image) → IsImage bytes image
    → HasSections bytes image
sections_read bytes image h = record {
  limit = image_end bytes;
  headers = table bytes;
  is = (outlined bytes image (is_read bytes image h).whole).sections;
}

-- ---- sections

passed : (b : Bool) (e : ImageErr) (r : Result Unit ImageErr) → (unless b e >>= λ _. r) ≡ Ok tt
    → (b ≡ true) × (r ≡ Ok tt)
passed true e r h = (refl, h)
passed false e r h = absurd cc

laid_out_below : (bytes : List ℕ) (limit index end : ℕ) (hs : List SectionHeader)
    → all_laid_out (length bytes) limit index end hs ≡ Ok tt
    → AreBelow limit (map (section_of bytes) hs)
laid_out_below bytes limit index end [] e = tt
laid_out_below bytes limit index end (s ∷ hs) e =
    let both = passed (is_laid_out (length bytes) limit end s) (refusals.Layout index)
    (all_laid_out (length bytes) limit (index + 1) (s.address + s.size) hs) e in
    let fits = and_parts (((s.raw_size == 0) || leb (s.raw_at + s.raw_size) (length bytes))
    && (s.address % PAGE == 0) && leb end s.address) (leb (s.address + s.size) limit) both.0 in (
      leb-true (s.address + s.size) limit fits.1,
      laid_out_below bytes limit (index + 1) (s.address + s.size) hs both.1,
    )

mapped_below : (bytes : List ℕ) (limit : ℕ) (hs : List SectionHeader) (r : Result Unit ImageErr)
    (ss : List Section) → (r ≡ Ok tt → AreBelow limit (map (section_of bytes) hs))
    → (r >>= λ _. Ok (map (section_of bytes) hs)) ≡ Ok ss → AreBelow limit ss
mapped_below bytes limit hs (Ok x) ss up e = let same : map (section_of bytes) hs ≡ ss = cc in
    subst (AreBelow limit) same (up refl)
mapped_below bytes limit hs (Err x) ss up e = absurd cc

sections_below : (bytes : List ℕ) (limit : ℕ) (hs : List SectionHeader) (ss : List Section)
    → sections_of bytes limit hs ≡ Ok ss → AreBelow limit ss
sections_below bytes limit hs ss e = mapped_below bytes limit hs
    (all_laid_out (length bytes) limit 0 0 hs) ss (laid_out_below bytes limit 0 0 hs) e

-- ---- slots

begun : (rva : ℕ) (s : Section) → stores_byte rva s ≡ true → s.address ≤ rva
begun rva s e = leb-true s.address rva
    (and_parts (leb s.address rva) (ltb rva (s.address + length s.raw)) e).0

slot_ends : (rva end limit : ℕ) (ss : List Section) → AreAscending end ss → AreBelow limit ss
    → 8 ≤ length (stored_in rva (section_at rva ss)) → rva + 8 ≤ limit
slot_ends rva end limit [] up below long = absurd (omega arith)
slot_ends rva end limit (s ∷ ss) up below long = go (stores_byte rva s) refl long
    (λ long. slot_ends rva (s.address + s.size) limit ss up.1 below.1 long)
  where
    go : (b : Bool) → stores_byte rva s ≡ b → 8
        ≤ length (stored_in rva (section_or (section_at rva ss) s b))
        → (8 ≤ length (stored_in rva (section_at rva ss)) → rva + 8 ≤ limit) → rva + 8 ≤ limit
    go true is long rest =
        let from = begun rva s is in
        let left = length-drop (rva - s.address) s.raw in
        let fits = below.0 in
        let small = up.0.stored in
        omega arith
    go false is long rest = rest long

AreSlotsBelow : ℕ → List Import → Type 0
AreSlotsBelow limit is = AllByRecursion (λ i. i.slot + 8 ≤ limit) is

slots_below : (limit : ℕ) (ss : List Section) (is : List Import) → AreAscending 0 ss
    → AreBelow limit ss → AllByRecursion (IsStored ss) is → AreSlotsBelow limit is
unfolding AreSlotsBelow
slots_below limit ss [] up below stored = tt
slots_below limit ss (i ∷ is) up below stored = (
  slot_ends i.slot 0 limit ss up below stored.0,
  slots_below limit ss is up below stored.1,
)

-- ---- the whole image

-- its base is low, and no section and no slot of it ends past the largest image
pub record IsBounded (image : Image) : Type 0 where
  pub base : image.base < 2 ^ 63
  pub slots : AllByRecursion (λ i. i.slot + 8 ≤ 2 ^ 47) (imports_of image)

-- one that has a place has a low base
pub low_base : (image : Image) → has_place image ≡ true → image.base + 2 ^ 32 ≤ 2 ^ 63
low_base image h =
    let end = and_parts ((image.base % BASE_ALIGNMENT == 0) && leb LEAST_BASE image.base
    && leb image.size MOST_IMAGE) (leb (image.base + image.size) ADDRESSES_END) h in
    let low = leb-true (image.base + image.size) ADDRESSES_END end.1 in
    omega arith

whole_pages : (n : ℕ) → n < 2 ^ 32 → pages n ≤ 2 ^ 47
whole_pages n le = omega arith

below_more : (a b : ℕ) (ss : List Section) → a ≤ b → AreBelow a ss → AreBelow b ss
below_more a b [] le all = tt
below_more a b (s ∷ ss) le all = (let first = all.0 in omega arith, below_more a b ss le all.1)

-- what was read at a low base is bounded
pub bounded_low : (bytes : List ℕ) (image : Image) → IsImage bytes image → image.base < 2 ^ 63
    → image_size bytes < 2 ^ 32 → IsBounded image
unfolding AreSlotsBelow
bounded_low bytes image read base size =
    let r = is_read bytes image read in
    let o = outlined bytes image r.whole in
    let up = sections_rise bytes (image_end bytes) (table bytes) image.sections o.sections in
    let end : image_end bytes ≤ 2 ^ 47 = whole_pages (image_size bytes) size in
    let below = below_more (image_end bytes) (2 ^ 47) image.sections end
    (sections_below bytes (image_end bytes) (table bytes) image.sections o.sections) in
    let slots = slots_below (2 ^ 47) image.sections r.all up below
    (slots_stored image.sections image.imports r.all r.imported) in
    record {
      base = base;
      slots = subst (λ xs. AllByRecursion (λ i. i.slot + 8 ≤ 2 ^ 47) xs)
          (sym (ap or_none r.imported)) slots;
    }

-- and so is what has a place
pub bounded : (bytes : List ℕ) (image : Image) → IsImage bytes image → has_place image ≡ true
    → IsBounded image
bounded bytes image read place =
    let low = low_base image place in
    let end = and_parts ((image.base % BASE_ALIGNMENT == 0) && leb LEAST_BASE image.base
    && leb image.size MOST_IMAGE) (leb (image.base + image.size) ADDRESSES_END) place in
    let size = and_parts ((image.base % BASE_ALIGNMENT == 0) && leb LEAST_BASE image.base)
    (leb image.size MOST_IMAGE) end.0 in
    let most = leb-true image.size MOST_IMAGE size.1 in
    let same = (outlined bytes image (is_read bytes image read).whole).size in
    bounded_low bytes image read (omega (arith, low)) (omega (arith, most, same))
