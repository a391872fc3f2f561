-- What a written image stores of a program: pieces of its text, its unwind infos and its function
-- table.
use Rattle.std.proofs.Common.{◌≡◌, ℕ, ◌+◌, ◌-◌, ◌<◌, true, ltb, leb, List, [], ◌∷◌, ◌++◌, length, take, drop, Some, refl, sym, ap, ◌∙◌, arith, length-append}
use Rattle.std.proofs.lemmas.Bool.{and_from, eq-eqb, lt-ltb, le-leb}
use Rattle.std.proofs.lemmas.List.{drop_at, append-nil}
use Rattle.std.proofs.Math.Seq.{take-append_seam}
use Rattle.image_tables.specs.Words.{Section, stored, ImageContents, CanBeImage, sizes_of, text_at, xdata_at, sections_of, stores_byte, section_or, section_at, stored_in, only_if, whole, pdata_at, data_section}
use Rattle.pe_image.proofs.Stored.{above_holds_none}
use Rattle.pe_write.specs.Program.{data_read, text_read, rdata_read, xdata_read, pdata_read, names_read, if_named}
use Rattle.pe_write.proofs.Back.{raw_length}
use Rattle.image_tables.proofs.Lemmas.{xdata_is_at, pdata_is_at}

-- ---- pieces

piece : (all front bytes more : List ℕ) (k : ℕ) → all ≡ front ++ (bytes ++ more) → length front ≡ k
    → take (length bytes) (drop k all) ≡ bytes
piece all front bytes more k e at = ap (λ t. take (length bytes) (drop k t)) e
    ∙ ap (take (length bytes)) (drop_at front (bytes ++ more) k at) ∙ take-append_seam bytes more

-- from where a section's bytes from k on are stored
pub there : (ss : List Section) (rva k : ℕ) (all front bytes more : List ℕ)
    → stored_in rva (section_at rva ss) ≡ drop k all → all ≡ front ++ (bytes ++ more)
    → length front ≡ k → stored ss rva (length bytes) ≡ Some bytes
there ss rva k all front bytes more h e at =
    ap (λ t. whole (length bytes) (take (length bytes) t)) h
    ∙ ap (whole (length bytes)) (piece all front bytes more k e at)
    ∙ ap (only_if bytes) (eq-eqb (length bytes) (length bytes) refl)

-- ---- the text

module _ (p : ImageContents) (fits : CanBeImage p) where
  abbrev globals : Section
  globals = data_read p

  abbrev code : Section
  code = text_read p

  abbrev others : List Section
  others = rdata_read p ∷ xdata_read p ∷ pdata_read p ∷ if_named p.names (names_read p)

  text_is_at : (k : ℕ) → k < length p.text → stored_in (text_at (sizes_of p) + k)
      (section_at (text_at (sizes_of p) + k) (sections_of p)) ≡ drop k p.text
  text_is_at k lt =
      let at = text_at (sizes_of p) in
      let back : at + k - at ≡ k = omega arith in
      let e = raw_length (data_section p) in
      let h = fits.stored in
      let w = fits.whole in
      let within : stores_byte (at + k) code ≡ true = and_from (leb at (at + k))
      (ltb (at + k) (at + length p.text)) (le-leb at (at + k) (omega arith))
      (lt-ltb (at + k) (at + length p.text) (omega arith)) in
      ap (stored_in (at + k)) (ap (section_or (section_at (at + k) (code ∷ others)) globals)
      (above_holds_none (at + k) globals (omega arith))
      ∙ ap (section_or (section_at (at + k) others) code) within)
      ∙ ap (λ n. drop n p.text) back

  -- ---- bytes that are there, between others

  pub text_there : (front bytes more : List ℕ) → p.text ≡ front ++ (bytes ++ more)
      → 0 < length bytes → stored (sections_of p) (text_at (sizes_of p) + length front)
      (length bytes) ≡ Some bytes
  text_there front bytes more e some =
      let l = ap length e in
      let k = length front in
      there (sections_of p) (text_at (sizes_of p) + k) k p.text front bytes more
      (text_is_at k (omega (
        arith,
        length-append front (bytes ++ more),
        length-append bytes more,
      ))) e refl

  pub xdata_there : (front bytes more : List ℕ) → p.xdata ≡ front ++ (bytes ++ more)
      → 0 < length bytes → stored (sections_of p) (xdata_at (sizes_of p) + length front)
      (length bytes) ≡ Some bytes
  xdata_there front bytes more e some =
      let l = ap length e in
      let k = length front in
      there (sections_of p) (xdata_at (sizes_of p) + k) k p.xdata front bytes more
      (xdata_is_at p fits k (omega (
        arith,
        length-append front (bytes ++ more),
        length-append bytes more,
      ))) e refl

  -- the whole function table, also where it is empty
  pub pdata_there : stored (sections_of p) (pdata_at (sizes_of p)) (length p.pdata) ≡ Some p.pdata
  pdata_there = go p.pdata refl
    where
      go : (bytes : List ℕ) → p.pdata ≡ bytes
          → stored (sections_of p) (pdata_at (sizes_of p)) (length bytes) ≡ Some bytes
      go [] e = refl
      go (b ∷ bytes) e =
          let at = pdata_at (sizes_of p) in
          let zero-less : at + 0 ≡ at = omega arith in
          let l = ap length e in
          let h = pdata_is_at p fits 0 (omega arith) in
          let all : p.pdata ≡ [] ++ ((b ∷ bytes) ++ []) = e ∙ sym (append-nil (b ∷ bytes)) in
          there (sections_of p) at 0 p.pdata [] (b ∷ bytes) []
          (ap (λ n. stored_in n (section_at n (sections_of p))) (sym zero-less) ∙ h) all refl
