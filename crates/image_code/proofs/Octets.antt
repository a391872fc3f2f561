-- The bytes of an image are octets, and so are those that it stores.
use Rattle.std.proofs.Common.{◌≡◌, ℕ, zero, suc, ◌-◌, ◌*◌, ◌^◌, ◌<◌, Bool, true, false, ◌==◌, List, [], ◌∷◌, length, take, drop, map, min, get_or, Some, Result, Ok, Err, subst, arith}
use Rattle.std.specs.List.{AllByRecursion}
use Rattle.std.proofs.Math.Nat.{pow-suc}
use Rattle.byteorder.specs.Endian.{little_number, little_from}
use Rattle.seh_num.specs.Answers.{◌>>=◌}
use Rattle.pe_image.specs.declared.refusal.ImageErr.{ImageErr}
use Rattle.pe_image.specs.declared.table.SectionHeader.{SectionHeader}
use Rattle.pe_image.specs.Image.{Section, Image, stores_byte, section_or, section_at, stored_in, only_if, stored}
use Rattle.pe_image.specs.Reading.{IsImage, all_laid_out, section_of}
use Rattle.image_code.proofs.ImageBounds.{sections_read}

abbrev pub AreOctets : List ℕ → Type 0
AreOctets bytes = AllByRecursion (λ b. b < 256) bytes

-- ---- parts of a list

taken : (n : ℕ) (xs : List ℕ) → AreOctets xs → AreOctets (take n xs)
taken zero xs all = tt
taken (suc n) [] all = tt
taken (suc n) (x ∷ xs) all = (all.0, taken n xs all.1)

pub dropped : (n : ℕ) (xs : List ℕ) → AreOctets xs → AreOctets (drop n xs)
dropped zero xs all = all
dropped (suc n) [] all = tt
dropped (suc n) (x ∷ xs) all = dropped n xs all.1

pub octet : (xs : List ℕ) (i : ℕ) → AreOctets xs → get_or xs i 0 < 256
octet [] zero all = omega arith
octet [] (suc i) all = omega arith
octet (x ∷ xs) zero all = all.0
octet (x ∷ xs) (suc i) all = octet xs i all.1

-- ---- sections

abbrev HaveOctets : List Section → Type 0
HaveOctets ss = AllByRecursion (λ s. AreOctets s.raw) ss

each_section : (bytes : List ℕ) (hs : List SectionHeader) → AreOctets bytes
    → HaveOctets (map (section_of bytes) hs)
each_section bytes [] all = tt
each_section bytes (h ∷ hs) all = (
  taken (min h.size h.raw_size) (drop h.raw_at bytes) (dropped h.raw_at bytes all),
  each_section bytes hs all,
)

sections_are : (bytes : List ℕ) (hs : List SectionHeader) (r : Result Unit ImageErr)
    (ss : List Section) → AreOctets bytes → (r >>= λ _. Ok (map (section_of bytes) hs)) ≡ Ok ss
    → HaveOctets ss
sections_are bytes hs (Ok x) ss all e = let same : map (section_of bytes) hs ≡ ss = cc in
    subst HaveOctets same (each_section bytes hs all)
sections_are bytes hs (Err x) ss all e = absurd cc

stored_from : (rva : ℕ) (ss : List Section) → HaveOctets ss
    → AreOctets (stored_in rva (section_at rva ss))
stored_from rva [] all = tt
stored_from rva (s ∷ ss) all = go (stores_byte rva s) (stored_from rva ss all.1)
  where
    go : (b : Bool) → AreOctets (stored_in rva (section_at rva ss))
        → AreOctets (stored_in rva (section_or (section_at rva ss) s b))
    go true others = dropped (rva - s.address) s.raw all.0
    go false others = others

stored_octets : (ss : List Section) (rva n : ℕ) (bytes : List ℕ) → HaveOctets ss
    → stored ss rva n ≡ Some bytes → AreOctets bytes
stored_octets ss rva n bytes all h =
    go (length (take n (stored_in rva (section_at rva ss))) == n) h
  where
    go : (b : Bool) → only_if (take n (stored_in rva (section_at rva ss))) b ≡ Some bytes
        → AreOctets bytes
    go true e = let same : take n (stored_in rva (section_at rva ss)) ≡ bytes = cc in
        subst AreOctets same
        (taken n (stored_in rva (section_at rva ss)) (stored_from rva ss all))
    go false e = absurd cc

-- what an image stores, that was read from octets
pub stored_are_octets : (file : List ℕ) (image : Image) (rva n : ℕ) (bytes : List ℕ)
    → IsImage file image → AreOctets file → stored image.sections rva n ≡ Some bytes
    → AreOctets bytes
stored_are_octets file image rva n bytes read all h =
    let s = sections_read file image read in
    stored_octets image.sections rva n bytes
    (sections_are file s.headers (all_laid_out (length file) s.limit 0 0 s.headers) image.sections
    all s.is) h

-- ---- numbers

number_from : (i n : ℕ) (xs : List ℕ) → AreOctets xs → little_from i n xs < 256 ^ n
number_from i zero xs all = omega arith
number_from i (suc n) xs all =
    let p : 256 ^ suc n ≡ 256 ^ n * 256 = pow-suc 256 n in
    let rest = number_from (suc i) n xs all in
    let first = octet xs i all in
    omega (arith, p, rest, first)

pub number_below : (n : ℕ) (xs : List ℕ) → AreOctets xs → little_number n xs < 256 ^ n
number_below n xs all = number_from 0 n xs all
