-- One entry more of a lookup table, and one library more.
use Rattle.std.proofs.Common.{◌≡◌, ◌≢◌, ℕ, zero, suc, ◌+◌, Bool, true, false, Option, Some, None, Result, Ok, Err, List, [], ◌++◌, length, length-append, refl, sym, ap, ◌∙◌, arith}
use Rattle.byteorder.specs.Endian.{little_number}
use Rattle.std.specs.Prelude.{is_ok}
use Rattle.std.proofs.lemmas.Bool.{ne_eqb}
use Rattle.pe_image.specs.declared.directory.DataDirectory.{DataDirectory}
use Rattle.pe_image.specs.declared.refusal.ImageErr.{ImageErr}
use Rattle.pe_image.specs.declared.refusal.ImageErr.TheVariants as refusals
use Rattle.seh_num.specs.Answers.{◌>>=◌, or_refused, prepend, onto}
use Rattle.pe_image.specs.Answer.{Refuses}
use Rattle.pe_image.specs.Field.{field}
use Rattle.pe_image.specs.Image.{Section, stored}
use Rattle.pe_image.specs.Imports.{Import, import_at, next_entry, library, is_zero, lookups, entries_of, next_library, libraries, max_count, unless_none, imports_in, or_none, counted}

abbrev pub Answered : Type 0
Answered = Result (List Import) ImageErr

-- ---- a library

pub no_entries_left : (n : ℕ) (ss : List Section) (index look slot : ℕ) → n ≡ 0
    → library n ss index look slot ≡ Err (refusals.ImportBad index)
unfolding library
no_entries_left zero ss index look slot e = refl
no_entries_left (suc n) ss index look slot e = absurd (omega arith)

module _ (ss : List Section) (index look slot : ℕ) where
  abbrev on : ℕ → List ℕ → Answered
  on m entry = next_entry ss index slot (library m ss (index + 1) (look + 8) (slot + 8))
      (little_number 8 entry)

  entry_first : (n m : ℕ) → n ≡ m + 1 → library n ss index look slot
      ≡ or_refused (stored ss look 8) (refusals.ImportBad index) >>= on m
  unfolding library
  entry_first zero m e = absurd (omega arith)
  entry_first (suc n) m e = let h : n ≡ m = omega arith in
      ap (λ k. or_refused (stored ss look 8) (refusals.ImportBad index) >>= on k) h

  pub entry_missing : (n m : ℕ) → n ≡ m + 1 → stored ss look 8 ≡ None
      → library n ss index look slot ≡ Err (refusals.ImportBad index)
  entry_missing n m e is = entry_first n m e
      ∙ ap (λ (o : Option (List ℕ)). or_refused o (refusals.ImportBad index) >>= on m) is

  there : (n m : ℕ) (b : List ℕ) → n ≡ m + 1 → stored ss look 8 ≡ Some b
      → library n ss index look slot ≡ on m b
  there n m b e is = entry_first n m e ∙ ap (λ (o : Option (List ℕ)). or_refused o
      (refusals.ImportBad index) >>= on m) is

  pub entries_end : (n m : ℕ) (b : List ℕ) → n ≡ m + 1 → stored ss look 8 ≡ Some b
      → little_number 8 b ≡ 0 → library n ss index look slot ≡ Ok []
  entries_end n m b e is z = there n m b e is ∙ ap (next_entry ss index slot
      (library m ss (index + 1) (look + 8) (slot + 8))) z

  some : (others : Answered) (k : ℕ) → k ≢ 0 → next_entry ss index slot others k
      ≡ or_refused (import_at ss slot k) (refusals.ImportBad index) >>= λ i. prepend i others
  some others zero ne = absurd (ne refl)
  some others (suc k) ne = refl

  imported : (n m : ℕ) (b : List ℕ) (o : Option Import) → n ≡ m + 1 → stored ss look 8 ≡ Some b
      → little_number 8 b ≢ 0 → import_at ss slot (little_number 8 b) ≡ o
      → library n ss index look slot ≡ or_refused o (refusals.ImportBad index)
      >>= λ i. prepend i (library m ss (index + 1) (look + 8) (slot + 8))
  imported n m b o e is ne found =
      let others = library m ss (index + 1) (look + 8) (slot + 8) in
      there n m b e is ∙ some others (little_number 8 b) ne
      ∙ ap (λ (o : Option Import). or_refused o (refusals.ImportBad index)
      >>= λ i. prepend i others) found

  pub import_missing : (n m : ℕ) (b : List ℕ) → n ≡ m + 1 → stored ss look 8 ≡ Some b
      → little_number 8 b ≢ 0 → import_at ss slot (little_number 8 b) ≡ None
      → library n ss index look slot ≡ Err (refusals.ImportBad index)
  import_missing n m b e is ne none = imported n m b None e is ne none

  pub import_first : (n m : ℕ) (b : List ℕ) (i : Import) → n ≡ m + 1 → stored ss look 8 ≡ Some b
      → little_number 8 b ≢ 0 → import_at ss slot (little_number 8 b) ≡ Some i
      → library n ss index look slot
      ≡ prepend i (library m ss (index + 1) (look + 8) (slot + 8))
  import_first n m b i e is ne found = imported n m b (Some i) e is ne found

-- ---- all libraries

pub no_libraries_left : (n : ℕ) (ss : List Section) (index at : ℕ) → n ≡ 0
    → libraries n ss index at ≡ Err (refusals.ImportBad index)
unfolding libraries
no_libraries_left zero ss index at e = refl
no_libraries_left (suc n) ss index at e = absurd (omega arith)

module _ (ss : List Section) (index at : ℕ) where
  abbrev after : ℕ → List ℕ → Answered
  after m d = next_library (λ ys. libraries m ss (index + length ys) (at + 20))
      (entries_of ss index d) (is_zero d)

  library_there : (n m : ℕ) → n ≡ m + 1 → libraries n ss index at
      ≡ or_refused (stored ss at 20) (refusals.ImportBad index) >>= after m
  unfolding libraries
  library_there zero m e = absurd (omega arith)
  library_there (suc n) m e = let h : n ≡ m = omega arith in
      ap (λ k. or_refused (stored ss at 20) (refusals.ImportBad index) >>= after k) h

  pub descriptor_missing : (n m : ℕ) → n ≡ m + 1 → stored ss at 20 ≡ None
      → libraries n ss index at ≡ Err (refusals.ImportBad index)
  descriptor_missing n m e is = library_there n m e
      ∙ ap (λ (o : Option (List ℕ)). or_refused o (refusals.ImportBad index) >>= after m) is

  descriptor_there : (n m : ℕ) (d : List ℕ) (b : Bool) → n ≡ m + 1 → stored ss at 20 ≡ Some d
      → is_zero d ≡ b → libraries n ss index at
      ≡ next_library (λ ys. libraries m ss (index + length ys) (at + 20)) (entries_of ss index d) b
  descriptor_there n m d b e is z =
      library_there n m e ∙ ap (λ (o : Option (List ℕ)). or_refused o (refusals.ImportBad index)
      >>= after m) is
      ∙ ap (next_library (λ ys. libraries m ss (index + length ys) (at + 20))
      (entries_of ss index d)) z

  pub libraries_end : (n m : ℕ) (d : List ℕ) → n ≡ m + 1 → stored ss at 20 ≡ Some d
      → is_zero d ≡ true → libraries n ss index at ≡ Ok []
  libraries_end n m d e is z = descriptor_there n m d true e is z

  pub library_first : (n m : ℕ) (d : List ℕ) → n ≡ m + 1 → stored ss at 20 ≡ Some d
      → is_zero d ≡ false → libraries n ss index at
      ≡ (entries_of ss index d >>= λ xs. onto xs (libraries m ss (index + length xs) (at + 20)))
  library_first n m d e is z = descriptor_there n m d false e is z

-- ---- the number of imports

counted_prepend : (n : ℕ) (i : Import) (r : Answered)
    → counted n (prepend i r) ≡ counted (n + 1) r
counted_prepend n i (Ok is) = let e : n + suc (length is) ≡ n + 1 + length is = omega arith in
    ap (λ (k : ℕ). Ok k) e
counted_prepend n i (Err e) = refl

counted_onto : (n : ℕ) (is : List Import) (r : Answered)
    → counted n (onto is r) ≡ counted (n + length is) r
counted_onto n is (Ok js) =
    let e : n + length (is ++ js) ≡ n + length is + length js =
    omega (arith, length-append is js) in
    ap (λ (k : ℕ). Ok k) e
counted_onto n is (Err e) = refl

pub counted_none : (n : ℕ) → counted n (Ok []) ≡ Ok n
counted_none n = let e : n + 0 ≡ n = omega arith in ap (λ (k : ℕ). Ok k) e

pub import_counted : (ss : List Section) (index look slot n m : ℕ) (b : List ℕ) (i : Import)
    → n ≡ m + 1 → stored ss look 8 ≡ Some b → little_number 8 b ≢ 0
    → import_at ss slot (little_number 8 b) ≡ Some i
    → counted (index + 1) (library m ss (index + 1) (look + 8) (slot + 8))
    ≡ counted index (library n ss index look slot)
import_counted ss index look slot n m b i e is ne found =
    sym (ap (counted index) (import_first ss index look slot n m b i e is ne found)
    ∙ counted_prepend index i (library m ss (index + 1) (look + 8) (slot + 8)))

-- after a library
refused_in : (index : ℕ) (r : Answered) (others : List Import → Answered) (e : ImageErr)
    → counted index r ≡ Err e → (r >>= λ is. onto is (others is)) ≡ Err e
refused_in index (Ok is) others e h = cc
refused_in index (Err f) others e h = cc

counted_in : (index k : ℕ) (r : Answered) (others : ℕ → Answered) → counted index r ≡ Ok k
    → counted k (others k) ≡ counted index (r >>= λ is. onto is (others (index + length is)))
counted_in index k (Ok is) others h = let n : k ≡ index + length is = cc in
    ap (λ j. counted j (others j)) n
    ∙ sym (counted_onto index is (others (index + length is)))
counted_in index k (Err f) others h = cc

pub same_entries : (ss : List Section) (index look slot : ℕ) (d : List ℕ)
    → look ≡ lookups (field 4 d 0) (field 4 d 16) → slot ≡ field 4 d 16
    → library max_count ss index look slot ≡ entries_of ss index d
same_entries ss index look slot d e1 e2 = ap (λ n. library max_count ss index n slot) e1
    ∙ ap (library max_count ss index (lookups (field 4 d 0) (field 4 d 16))) e2

module _ (ss : List Section) (index at n m look slot : ℕ) (d : List ℕ) (e : n ≡ m + 1)
    (is : stored ss at 20 ≡ Some d) (z : is_zero d ≡ false)
    (e1 : look ≡ lookups (field 4 d 0) (field 4 d 16)) (e2 : slot ≡ field 4 d 16) where
  pub library_refused : (f : ImageErr)
      → counted index (library max_count ss index look slot) ≡ Err f
      → libraries n ss index at ≡ Err f
  library_refused f h =
      library_first ss index at n m d e is z
      ∙ refused_in index (entries_of ss index d)
      (λ xs. libraries m ss (index + length xs) (at + 20))
      f (ap (counted index) (sym (same_entries ss index look slot d e1 e2)) ∙ h)

  pub library_counted : (k next : ℕ) → counted index (library max_count ss index look slot) ≡ Ok k
      → next ≡ at + 20 → counted k (libraries m ss k next) ≡ counted index (libraries n ss index at)
  library_counted k next h there =
      ap (λ a. counted k (libraries m ss k a)) there
      ∙ counted_in index k (entries_of ss index d) (λ j. libraries m ss j (at + 20))
      (ap (counted index) (sym (same_entries ss index look slot d e1 e2)) ∙ h)
      ∙ sym (ap (counted index) (library_first ss index at n m d e is z))

-- ---- the whole

pub refused_at : (k n : ℕ) → k ≡ n → (let r : Result ℕ ImageErr = Err (refusals.ImportBad k) in r)
    ≡ Err (refusals.ImportBad n)
refused_at k n e = ap (λ j. Err (refusals.ImportBad j)) e

pub with_directory : (ss : List Section) (d : DataDirectory) (r : Answered) → d.size ≢ 0
    → libraries max_count ss 0 d.rva ≡ r → imports_in ss d ≡ r
with_directory ss d r ne e = ap (unless_none (libraries max_count ss 0 d.rva)) (ne_eqb d.size 0 ne)
    ∙ e

pub ok_is : (r : Answered) → is_ok r ≡ true → r ≡ Ok (or_none r)
ok_is (Ok is) h = refl
ok_is (Err e) h = cc

-- a refusal is that of what was counted
pub counted_refused : (n : ℕ) (r : Answered) (e : ImageErr) → counted n r ≡ Err e → r ≡ Err e
counted_refused n (Ok is) e h = cc
counted_refused n (Err f) e h = cc

pub counted_ok : (n k : ℕ) (r : Answered) → counted n r ≡ Ok k → is_ok r ≡ true
counted_ok n k (Ok is) h = refl
counted_ok n k (Err f) h = cc

module _ (ss : List Section) (dir : DataDirectory) (index at n m look slot : ℕ) (d : List ℕ)
    (some : dir.size ≢ 0) (e : n ≡ m + 1) (is : stored ss at 20 ≡ Some d) (z : is_zero d ≡ false)
    (e1 : look ≡ lookups (field 4 d 0) (field 4 d 16)) (e2 : slot ≡ field 4 d 16)
    (so_far : counted index (libraries n ss index at)
    ≡ counted 0 (libraries max_count ss 0 dir.rva)) where
  pub whole_refused : (f : ImageErr)
      → Refuses f (counted index (library max_count ss index look slot))
      → Refuses f (imports_in ss dir)
  whole_refused refusals.Memory h = tt
  whole_refused f h = with_directory ss dir _ some (counted_refused 0
      (libraries max_count ss 0 dir.rva) f (sym so_far ∙ ap (counted index)
      (library_refused ss index at n m look slot d e is z e1 e2 f h)))
