-- The section table, header by header as a loop reads it.
use Rattle.std.proofs.Common.{◌≡◌, ℕ, suc, ◌+◌, ◌-◌, ◌*◌, ◌%◌, ◌<◌, ◌≤◌, Bool, true, false, ◌&&◌, ◌||◌, ◌==◌, leb, List, [], ◌∷◌, ◌++◌, length, drop, map, min, Result, Ok, Err, refl, sym, ap, subst, ◌∙◌, append_assoc, arith}
use Rattle.std.proofs.lemmas.List.{append-nil, length-take}
use Rattle.std.proofs.lemmas.Bool.{and_parts, eqb-true, leb-true}
use Rattle.host_layout.specs.declared.range.TheConstants.{PAGE}
use Rattle.pe_image.specs.declared.image_layout.ImageLayout.{ImageLayout}
use Rattle.pe_image.specs.declared.image_layout.ImageLayout.TheVariants as layouts
use Rattle.pe_image.specs.declared.refusal.ImageErr.{ImageErr}
use Rattle.pe_image.specs.declared.refusal.ImageErr.TheVariants as refusals
use Rattle.pe_image.specs.declared.table.SectionHeader.{SectionHeader}
use Rattle.seh_num.specs.Answers.{◌>>=◌, unless}
use Rattle.pe_image.specs.Image.{Section, IsPlacedAfter, AreAscending}
use Rattle.pe_image.specs.Reading.{header_at, headers_from, placed, all_placed, is_laid_out, all_laid_out, section_of, sections_of}

-- sections that were read before, in front of those that are still read
abbrev pub with_front : List Section → Result (List Section) ImageErr
    → Result (List Section) ImageErr
with_front front read = read >>= λ ss. Ok (front ++ ss)

-- the sections from an index on, after an end
abbrev pub sections_from : List ℕ → ℕ → ℕ → ℕ → List SectionHeader → Result (List Section) ImageErr
sections_from bytes limit index end hs = all_laid_out (length bytes) limit index end hs
    >>= λ _. Ok (map (section_of bytes) hs)

-- the header at an index, before those after it
headers_more : (bytes : List ℕ) (count index at : ℕ) → index < count
    → headers_from bytes (count - index) (at + 40 * index)
    ≡ header_at bytes (at + 40 * index) ∷ headers_from bytes (count - (index + 1))
    (at + 40 * (index + 1))
headers_more bytes count index at lt =
    let k : count - index ≡ suc (count - (index + 1)) = omega arith in
    let next : at + 40 * index + 40 ≡ at + 40 * (index + 1) = omega arith in
    ap (λ n. headers_from bytes n (at + 40 * index)) k
    ∙ ap (λ n. header_at bytes (at + 40 * index) ∷ headers_from bytes (count - (index + 1)) n)
    next

placed_first : (layout : ImageLayout) (s : SectionHeader) (hs : List SectionHeader)
    → all_placed layout (s ∷ hs) ≡ placed layout s ∷ all_placed layout hs
placed_first layouts.File s hs = refl
placed_first layouts.Mapped s hs = refl

-- the headers from an index on, in a layout
abbrev pub placed_from : ImageLayout → List ℕ → ℕ → ℕ → ℕ → List SectionHeader
placed_from layout bytes count at index =
    all_placed layout (headers_from bytes (count - index) (at + 40 * index))

placed_more : (layout : ImageLayout) (bytes : List ℕ) (count index at : ℕ) (s : SectionHeader)
    → index < count → s ≡ placed layout (header_at bytes (at + 40 * index))
    → placed_from layout bytes count at index ≡ s ∷ placed_from layout bytes count at (index + 1)
placed_more layout bytes count index at s lt is =
    ap (all_placed layout) (headers_more bytes count index at lt)
    ∙ placed_first layout (header_at bytes (at + 40 * index))
    (headers_from bytes (count - (index + 1)) (at + 40 * (index + 1)))
    ∙ ap (λ h. h ∷ placed_from layout bytes count at (index + 1)) (sym is)

-- a section that lies as it must
laid_out : (bytes : List ℕ) (limit index end : ℕ) (s : SectionHeader) (hs : List SectionHeader)
    → is_laid_out (length bytes) limit end s ≡ true
    → (front : List Section) → with_front front (sections_from bytes limit index end (s ∷ hs))
    ≡ with_front (front ++ section_of bytes s ∷ [])
    (sections_from bytes limit (index + 1) (s.address + s.size) hs)
laid_out bytes limit index end s hs fits front =
    ap (λ b. with_front front ((unless b (refusals.Layout index)
    >>= λ _. all_laid_out (length bytes) limit (index + 1) (s.address + s.size) hs)
    >>= λ _. Ok (map (section_of bytes) (s ∷ hs)))) fits
    ∙ regroup (all_laid_out (length bytes) limit (index + 1) (s.address + s.size) hs)
  where
    regroup : (r : Result Unit ImageErr) → with_front front
        (r >>= λ _. Ok (map (section_of bytes) (s ∷ hs)))
        ≡ with_front (front ++ section_of bytes s ∷ []) (r >>= λ _. Ok (map (section_of bytes) hs))
    regroup (Ok x) = ap (λ (ss : List Section). Ok ss)
        (sym (append_assoc front (section_of bytes s ∷ []) (map (section_of bytes) hs)))
    regroup (Err e) = refl

not_laid_out : (bytes : List ℕ) (limit index end : ℕ) (s : SectionHeader) (hs : List SectionHeader)
    → is_laid_out (length bytes) limit end s ≡ false
    → (front : List Section) → with_front front (sections_from bytes limit index end (s ∷ hs))
    ≡ Err (refusals.Layout index)
not_laid_out bytes limit index end s hs not front =
    ap (λ b. with_front front ((unless b (refusals.Layout index)
    >>= λ _. all_laid_out (length bytes) limit (index + 1) (s.address + s.size) hs)
    >>= λ _. Ok (map (section_of bytes) (s ∷ hs)))) not

module _ (layout : ImageLayout) (bytes : List ℕ) (limit index end at count : ℕ) (s : SectionHeader)
    (front : List Section) (all : Result (List Section) ImageErr) (lt : index < count)
    (is : s ≡ placed layout (header_at bytes (at + 40 * index)))
    (so_far : with_front front
    (sections_from bytes limit index end (placed_from layout bytes count at index)) ≡ all) where
  begun : with_front front (sections_from bytes limit index end
      (s ∷ placed_from layout bytes count at (index + 1))) ≡ all
  begun = sym (ap (λ hs. with_front front (sections_from bytes limit index end hs))
      (placed_more layout bytes count index at s lt is)) ∙ so_far

  pub continues : is_laid_out (length bytes) limit end s ≡ true
      → with_front (front ++ section_of bytes s ∷ []) (sections_from bytes limit (index + 1)
      (s.address + s.size) (placed_from layout bytes count at (index + 1))) ≡ all
  continues fits = sym (laid_out bytes limit index end s
      (placed_from layout bytes count at (index + 1)) fits front) ∙ begun

  pub stops : is_laid_out (length bytes) limit end s ≡ false → all ≡ Err (refusals.Layout index)
  stops not = sym begun ∙ not_laid_out bytes limit index end s
      (placed_from layout bytes count at (index + 1)) not front

none_placed : (layout : ImageLayout) → all_placed layout [] ≡ []
none_placed layouts.File = refl
none_placed layouts.Mapped = refl

pub is_done : (layout : ImageLayout) (bytes : List ℕ) (limit index end at count : ℕ)
    (front : List Section) (all : Result (List Section) ImageErr) → count ≤ index
    → with_front front (sections_from bytes limit index end
    (placed_from layout bytes count at index)) ≡ all → all ≡ Ok front
is_done layout bytes limit index end at count front all le so_far =
    let k : count - index ≡ 0 = omega arith in
    let none : placed_from layout bytes count at index ≡ [] =
    ap (λ n. all_placed layout (headers_from bytes n (at + 40 * index))) k ∙ none_placed layout in
    sym so_far ∙ ap (λ hs. with_front front (sections_from bytes limit index end hs)) none
    ∙ ap (λ (ss : List Section). Ok ss) (append-nil front)

passed : (b : Bool) (e : ImageErr) (r : Result Unit ImageErr) → (unless b e >>= λ _. r) ≡ Ok tt
    → (b ≡ true) × (r ≡ Ok tt)
passed true e r h = (refl, h)
passed false e r h = absurd cc

-- what passes the checks lies in ascending order
laid_out_rise : (bytes : List ℕ) (limit index end : ℕ) (hs : List SectionHeader)
    → all_laid_out (length bytes) limit index end hs ≡ Ok tt
    → AreAscending end (map (section_of bytes) hs)
laid_out_rise bytes limit index end [] e = tt
laid_out_rise bytes limit index end (s ∷ hs) e =
    let both = passed (is_laid_out (length bytes) limit end s) (refusals.Layout index)
    (all_laid_out (length bytes) limit (index + 1) (s.address + s.size) hs) e in
    let fits = and_parts (((s.raw_size == 0) || leb (s.raw_at + s.raw_size) (length bytes))
    && (s.address % PAGE == 0) && leb end s.address) (leb (s.address + s.size) limit) both.0 in
    let above = and_parts (((s.raw_size == 0) || leb (s.raw_at + s.raw_size) (length bytes))
    && (s.address % PAGE == 0)) (leb end s.address) fits.0 in
    let aligned = and_parts ((s.raw_size == 0) || leb (s.raw_at + s.raw_size) (length bytes))
    (s.address % PAGE == 0) above.0 in
    let placed : IsPlacedAfter end (section_of bytes s) = record {
      above = leb-true end s.address above.1;
      aligned = eqb-true (s.address % PAGE) 0 aligned.1;
      stored = omega (arith, length-take (min s.size s.raw_size) (drop s.raw_at bytes));
    } in
    (placed, laid_out_rise bytes limit (index + 1) (s.address + s.size) hs both.1)

mapped_rise : (bytes : List ℕ) (hs : List SectionHeader) (r : Result Unit ImageErr)
    (ss : List Section) → (r ≡ Ok tt → AreAscending 0 (map (section_of bytes) hs))
    → (r >>= λ _. Ok (map (section_of bytes) hs)) ≡ Ok ss → AreAscending 0 ss
mapped_rise bytes hs (Ok x) ss up e = let same : map (section_of bytes) hs ≡ ss = cc in
    subst (AreAscending 0) same (up refl)
mapped_rise bytes hs (Err x) ss up e = absurd cc

pub sections_rise : (bytes : List ℕ) (limit : ℕ) (hs : List SectionHeader) (ss : List Section)
    → sections_of bytes limit hs ≡ Ok ss → AreAscending 0 ss
sections_rise bytes limit hs ss e = mapped_rise bytes hs (all_laid_out (length bytes) limit 0 0 hs)
    ss (laid_out_rise bytes limit 0 0 hs) e
