-- The range of each entry of a table stands in the directory that the table is read of.
use Rattle.std.proofs.Common.{◌≡◌, ℕ, ◌+◌, Bool, true, false, ◌&&◌, eqb, List, [], ◌∷◌, Some, Ok, refl, sym, ap, ◌∙◌}
use Rattle.std.proofs.lemmas.Bool.{and_from, or_left, or_right, eq-eqb}
use Rattle.pe_image.specs.Image.{Image}
use Rattle.eh_tables.specs.declared.range.RuntimeFunction.{RuntimeFunction}
use Rattle.eh_tables.specs.Answer.{Table}
use Rattle.eh_tables.specs.Tables.{Entry, directory, entries, tables, covers_address, entry_or, holding}
use Rattle.unwind_check.specs.Chains.{is_same_range, has_range}
use Rattle.unwind_check.proofs.ReadEntries.{is_read, split}
use Rattle.image_code.specs.Verdicts.{ranges_or_none}
use Rattle.seh.proofs.CheckedFrames.{has_ranges}

same_self : (r : RuntimeFunction) → is_same_range r r ≡ true
same_self r = and_from (eqb r.begin r.begin) (eqb r.end r.end && eqb r.unwind_info r.unwind_info)
    (eq-eqb r.begin r.begin refl)
    (and_from (eqb r.end r.end) (eqb r.unwind_info r.unwind_info) (eq-eqb r.end r.end refl)
    (eq-eqb r.unwind_info r.unwind_info refl))

one_entry : {x y : Entry} → Some x ≡ Some y → x ≡ y
one_entry e = cc

listed_from : (image : Image) (index last rva : ℕ) (rs : List RuntimeFunction) (es : List Entry)
    (e : Entry) → entries image index last rs ≡ Ok es → holding rva es ≡ Some e
    → has_range e.range rs ≡ true
listed_from image index last rva [] es e read held =
    let same : [] ≡ es = cc in
    none (ap (holding rva) same ∙ held)
  where
    none : holding rva [] ≡ Some e → has_range e.range [] ≡ true
    none h = absurd cc
listed_from image index last rva (r ∷ rs) es e read held =
    let s = split image index last r rs es read in
    let own = is_read image index last r s.head s.is in
    by s.head s.rest own.range (covers_address rva s.head.range)
    (sym (ap (holding rva) s.all) ∙ held)
    (λ h. listed_from image (index + 1) r.end rva rs s.rest e s.others h)
  where
    by : (head : Entry) (rest : List Entry) → head.range ≡ r → (b : Bool)
        → entry_or (holding rva rest) head b ≡ Some e
        → (holding rva rest ≡ Some e → has_range e.range rs ≡ true)
        → has_range e.range (r ∷ rs) ≡ true
    by head rest range true h more =
        let same : head ≡ e = one_entry h in
        or_left (is_same_range e.range r) (has_range e.range rs)
        (ap (λ (q : RuntimeFunction). is_same_range q r)
        (ap (λ (x : Entry). x.range) (sym same) ∙ range) ∙ same_self r)
    by head rest range false h more =
        or_right (is_same_range e.range r) (has_range e.range rs) (more h)

-- of one that covers an address
pub listed : (image : Image) (es : List Entry) (rva : ℕ) (e : Entry) → tables image ≡ Ok es
    → holding rva es ≡ Some e → has_range e.range (ranges_or_none (directory image)) ≡ true
listed image es rva e read held =
    let has = has_ranges image es read in
    ap (λ (t : Table (List RuntimeFunction)). has_range e.range (ranges_or_none t))
    has.is_directory
    ∙ listed_from image 0 0 rva has.ranges es e has.whole held
