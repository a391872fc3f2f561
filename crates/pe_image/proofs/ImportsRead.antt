-- The list of imports after one entry more, and after one library more.
use Rattle.std.proofs.Common.{◌≡◌, ◌≢◌, ℕ, zero, suc, ◌+◌, ◌-◌, ◌*◌, ◌≤◌, ◌<◌, ◌^◌, Bool, true, false, Option, Some, None, Ok, Err, List, [], ◌∷◌, ◌++◌, length, option_map, refl, sym, ap, ◌∙◌, inl, inr, eqb, arith}
use Rattle.std.specs.Prelude.{is_ok}
use Rattle.std.specs.Result.{result_ok}
use Rattle.std.proofs.lemmas.Bool.{cases_lt, ne_eqb}
use Rattle.byteorder.specs.Endian.{little_number}
use Rattle.pe_image.specs.declared.directory.DataDirectory.{DataDirectory}
use Rattle.pe_image.specs.declared.import_place.LookupTable.{LookupTable}
use Rattle.pe_image.specs.declared.refusal.ImageErr.TheVariants as refusals
use Rattle.seh_num.specs.Answers.{◌>>=◌, or_refused, prepend, onto}
use Rattle.pe_image.specs.Field.{field}
use Rattle.pe_image.specs.Image.{Section, stored}
use Rattle.pe_image.specs.Imports.{Import, import_at, next_entry, library, is_zero, lookups, entries_of, next_library, libraries, max_count, unless_none, or_none}
use Rattle.pe_image.specs.ImportsLeft.{entries, others, CanReadTable, CanReadOthers}
use Rattle.pe_image.proofs.Imported.{Answered, no_entries_left, entry_missing, entries_end, import_missing, import_first, no_libraries_left, descriptor_missing, libraries_end, library_first}

-- ---- lists that are read don't depend on the number of imports before

prepended : (i : Import) (r : Answered)
    → result_ok (prepend i r) ≡ option_map (λ is. i ∷ is) (result_ok r)
prepended i (Ok is) = refl
prepended i (Err e) = refl

same_next : (ss : List Section) (i j slot k : ℕ) (r s : Answered) → result_ok r ≡ result_ok s
    → result_ok (next_entry ss i slot r k) ≡ result_ok (next_entry ss j slot s k)
same_next ss i j slot zero r s e = refl
same_next ss i j slot (suc k) r s e = go (import_at ss slot (suc k))
  where
    go : (o : Option Import)
        → result_ok (or_refused o (refusals.ImportBad i) >>= λ x. prepend x r)
        ≡ result_ok (or_refused o (refusals.ImportBad j) >>= λ x. prepend x s)
    go None = refl
    go (Some x) = prepended x r ∙ ap (option_map (λ is. x ∷ is)) e ∙ sym (prepended x s)

same_entries : (n : ℕ) (ss : List Section) (i j look slot : ℕ)
    → result_ok (library n ss i look slot) ≡ result_ok (library n ss j look slot)
unfolding library
same_entries zero ss i j look slot = refl
same_entries (suc n) ss i j look slot =
    go (stored ss look 8) (same_entries n ss (i + 1) (j + 1) (look + 8) (slot + 8))
  where
    others_from : ℕ → Answered
    others_from k = library n ss (k + 1) (look + 8) (slot + 8)

    go : (o : Option (List ℕ)) → result_ok (others_from i) ≡ result_ok (others_from j)
        → result_ok (or_refused o (refusals.ImportBad i)
        >>= λ b. next_entry ss i slot (others_from i) (little_number 8 b))
        ≡ result_ok (or_refused o (refusals.ImportBad j)
        >>= λ b. next_entry ss j slot (others_from j) (little_number 8 b))
    go None e = refl
    go (Some b) e =
        same_next ss i j slot (little_number 8 b) (others_from i) (others_from j) e

appended : (is : List Import) (r : Answered)
    → result_ok (onto is r) ≡ option_map (λ js. is ++ js) (result_ok r)
appended is (Ok js) = refl
appended is (Err e) = refl

both_same : (r s : Answered) (f g : List Import → Answered) → result_ok r ≡ result_ok s
    → ((is : List Import) → result_ok (f is) ≡ result_ok (g is))
    → result_ok (r >>= λ is. onto is (f is)) ≡ result_ok (s >>= λ is. onto is (g is))
both_same (Ok is) (Ok js) f g e h = let same : is ≡ js = cc in
    appended is (f is) ∙ ap (option_map (λ ks. is ++ ks)) (h is) ∙ sym (appended is (g is))
    ∙ ap (λ ks. result_ok (onto ks (g ks))) same
both_same (Ok is) (Err e) f g same h = cc
both_same (Err e) (Ok is) f g same h = cc
both_same (Err d) (Err e) f g same h = refl

same_libraries : (n : ℕ) (ss : List Section) (i j at : ℕ)
    → result_ok (libraries n ss i at) ≡ result_ok (libraries n ss j at)
unfolding libraries
same_libraries zero ss i j at = refl
same_libraries (suc n) ss i j at = go (stored ss at 20)
    (λ is. same_libraries n ss (i + length is) (j + length is) (at + 20))
  where
    after : ℕ → List Import → Answered
    after k is = libraries n ss (k + length is) (at + 20)

    next : (d : List ℕ) (b : Bool)
        → ((is : List Import) → result_ok (after i is) ≡ result_ok (after j is))
        → result_ok (next_library (after i) (entries_of ss i d) b)
        ≡ result_ok (next_library (after j) (entries_of ss j d) b)
    next d true h = refl
    next d false h = both_same (entries_of ss i d) (entries_of ss j d) (after i) (after j)
        (same_entries max_count ss i j (lookups (field 4 d 0) (field 4 d 16)) (field 4 d 16)) h

    go : (o : Option (List ℕ))
        → ((is : List Import) → result_ok (after i is) ≡ result_ok (after j is))
        → result_ok (or_refused o (refusals.ImportBad i)
        >>= λ d. next_library (after i) (entries_of ss i d) (is_zero d))
        ≡ result_ok (or_refused o (refusals.ImportBad j)
        >>= λ d. next_library (after j) (entries_of ss j d) (is_zero d))
    go None h = refl
    go (Some d) h = next d (is_zero d) h

ok_same : (r s : Answered) → result_ok r ≡ result_ok s → is_ok r ≡ true → is_ok s ≡ true
ok_same (Ok is) (Ok js) e h = refl
ok_same (Ok is) (Err d) e h = cc
ok_same (Err d) s e h = cc

none_same : (r s : Answered) → result_ok r ≡ result_ok s → or_none r ≡ or_none s
none_same (Ok is) (Ok js) e = cc
none_same (Ok is) (Err d) e = cc
none_same (Err d) (Ok is) e = cc
none_same (Err c) (Err d) e = refl

-- ---- an entry

pub entry_ends : (n : ℕ) (ss : List Section) (look slot : ℕ) (b : List ℕ)
    → stored ss look 8 ≡ Some b → little_number 8 b ≡ 0
    → or_none (library n ss 0 look slot) ≡ []
entry_ends zero ss look slot b is z = ap or_none (no_entries_left 0 ss 0 look slot refl)
entry_ends (suc n) ss look slot b is z =
    ap or_none (entries_end ss 0 look slot (suc n) n b (omega arith) is z)

pub entry_lacks : (n : ℕ) (ss : List Section) (look slot : ℕ) → stored ss look 8 ≡ None
    → or_none (library n ss 0 look slot) ≡ []
entry_lacks zero ss look slot is = ap or_none (no_entries_left 0 ss 0 look slot refl)
entry_lacks (suc n) ss look slot is =
    ap or_none (entry_missing ss 0 look slot (suc n) n (omega arith) is)

pub import_lacks : (n : ℕ) (ss : List Section) (look slot : ℕ) (b : List ℕ)
    → stored ss look 8 ≡ Some b → little_number 8 b ≢ 0
    → import_at ss slot (little_number 8 b) ≡ None → or_none (library n ss 0 look slot) ≡ []
import_lacks zero ss look slot b is ne none = ap or_none (no_entries_left 0 ss 0 look slot refl)
import_lacks (suc n) ss look slot b is ne none =
    ap or_none (import_missing ss 0 look slot (suc n) n b (omega arith) is ne none)

prepend_ok : (i : Import) (r : Answered) → is_ok (prepend i r) ≡ true → is_ok r ≡ true
prepend_ok i (Ok is) h = refl
prepend_ok i (Err e) h = h

prepend_none : (i : Import) (r : Answered) → is_ok r ≡ true → or_none (prepend i r) ≡ i ∷ or_none r
prepend_none i (Ok is) h = refl
prepend_none i (Err e) h = cc

ok_entries : (n : ℕ) (ss : List Section) (look slot : ℕ)
    → is_ok (library n ss 0 look slot) ≡ true → n ≢ 0
ok_entries n ss look slot h z =
    let e = sym (ap is_ok (no_entries_left n ss 0 look slot z)) ∙ h in cc

module _ (ss : List Section) (t : LookupTable) (b : List ℕ) (i : Import)
    (reads : CanReadTable ss t) (is : stored ss (t.lookups + 8 * t.read) 8 ≡ Some b)
    (some : little_number 8 b ≢ 0)
    (found : import_at ss (t.slots + 8 * t.read) (little_number 8 b) ≡ Some i) where
  abbrev pub next_table : LookupTable
  next_table = record t { read = t.read + 1 }

  later : ℕ → Answered
  later k = library (max_count - (t.read + 1)) ss k (t.lookups + 8 * t.read + 8)
      (t.slots + 8 * t.read + 8)

  more : t.read < max_count
  more = elim (cases_lt t.read max_count) [
    | inl lt ↦ lt
    | inr ge ↦ absurd (ok_entries (max_count - t.read) ss (t.lookups + 8 * t.read)
        (t.slots + 8 * t.read) reads.entries (omega arith))
  ]

  here : entries ss t ≡ prepend i (later 1)
  unfolding later
  here = let lt = more in import_first ss 0 (t.lookups + 8 * t.read) (t.slots + 8 * t.read)
      (max_count - t.read) (max_count - (t.read + 1)) b i (omega arith) is some found

  moved : later 0 ≡ entries ss next_table
  unfolding later
  moved =
      let look : t.lookups + 8 * t.read + 8 ≡ t.lookups + 8 * (t.read + 1) = omega arith in
      let slot : t.slots + 8 * t.read + 8 ≡ t.slots + 8 * (t.read + 1) = omega arith in
      ap (λ k. library (max_count - (t.read + 1)) ss 0 k (t.slots + 8 * t.read + 8)) look
      ∙ ap (library (max_count - (t.read + 1)) ss 0 (t.lookups + 8 * (t.read + 1))) slot

  same_later : result_ok (later 1) ≡ result_ok (entries ss next_table)
  unfolding later
  same_later = same_entries (max_count - (t.read + 1)) ss 1 0 (t.lookups + 8 * t.read + 8)
      (t.slots + 8 * t.read + 8) ∙ ap result_ok moved

  ok_later : is_ok (later 1) ≡ true
  ok_later = prepend_ok i (later 1) (sym (ap is_ok here) ∙ reads.entries)

  pub table_first : or_none (entries ss t) ≡ i ∷ or_none (entries ss next_table)
  table_first = ap or_none here ∙ prepend_none i (later 1) ok_later
      ∙ ap (λ is. i ∷ is) (none_same (later 1) (entries ss next_table) same_later)

  pub table_next : CanReadTable ss next_table
  table_next = let lt = more in record {
    lookups = reads.lookups;
    slots = reads.slots;
    read = omega arith;
    entries = ok_same (later 1) (entries ss next_table) same_later ok_later;
  }

-- ---- a library

some_directory : (r : Answered) (size : ℕ) → size ≢ 0 → unless_none r (eqb size 0) ≡ r
some_directory r size ne = ap (unless_none r) (ne_eqb size 0 ne)

descriptor_lacks : (n : ℕ) (ss : List Section) (at : ℕ) → stored ss at 20 ≡ None
    → or_none (libraries n ss 0 at) ≡ []
descriptor_lacks zero ss at is = ap or_none (no_libraries_left 0 ss 0 at refl)
descriptor_lacks (suc n) ss at is =
    ap or_none (descriptor_missing ss 0 at (suc n) n (omega arith) is)

descriptor_ends : (n : ℕ) (ss : List Section) (at : ℕ) (d : List ℕ) → stored ss at 20 ≡ Some d
    → is_zero d ≡ true → or_none (libraries n ss 0 at) ≡ []
descriptor_ends zero ss at d is z = ap or_none (no_libraries_left 0 ss 0 at refl)
descriptor_ends (suc n) ss at d is z =
    ap or_none (libraries_end ss 0 at (suc n) n d (omega arith) is z)

pub library_lacks : (ss : List Section) (dir : DataDirectory) (n : ℕ) → dir.size ≢ 0
    → stored ss (dir.rva + 20 * n) 20 ≡ None → or_none (others ss dir n) ≡ []
library_lacks ss dir n some is =
    ap or_none (some_directory (libraries (max_count - n) ss 0 (dir.rva + 20 * n)) dir.size some)
    ∙ descriptor_lacks (max_count - n) ss (dir.rva + 20 * n) is

pub library_ends : (ss : List Section) (dir : DataDirectory) (n : ℕ) (d : List ℕ) → dir.size ≢ 0
    → stored ss (dir.rva + 20 * n) 20 ≡ Some d → is_zero d ≡ true → or_none (others ss dir n) ≡ []
library_ends ss dir n d some is z =
    ap or_none (some_directory (libraries (max_count - n) ss 0 (dir.rva + 20 * n)) dir.size some)
    ∙ descriptor_ends (max_count - n) ss (dir.rva + 20 * n) d is z

-- after the last number there is none
pub libraries_over : (ss : List Section) (dir : DataDirectory) (n : ℕ) → max_count ≤ n
    → or_none (others ss dir n) ≡ []
libraries_over ss dir n le = go (eqb dir.size 0)
  where
    at : ℕ
    at = dir.rva + 20 * n

    go : (b : Bool)
        → or_none (unless_none (libraries (max_count - n) ss 0 (dir.rva + 20 * n)) b) ≡ []
    go true = refl
    go false = ap or_none (no_libraries_left (max_count - n) ss 0 (dir.rva + 20 * n) (omega arith))

ok_libraries : (n : ℕ) (ss : List Section) (at : ℕ) → is_ok (libraries n ss 0 at) ≡ true → n ≢ 0
ok_libraries n ss at h z = let e = sym (ap is_ok (no_libraries_left n ss 0 at z)) ∙ h in cc

first_ok : (r : Answered) (f : List Import → Answered) → is_ok (r >>= λ is. onto is (f is)) ≡ true
    → is_ok r ≡ true
first_ok (Ok is) f h = refl
first_ok (Err e) f h = h

onto_ok : (is : List Import) (r : Answered) → is_ok (onto is r) ≡ true → is_ok r ≡ true
onto_ok is (Ok js) h = refl
onto_ok is (Err e) h = h

rest_ok : (r : Answered) (f : List Import → Answered) → is_ok (r >>= λ is. onto is (f is)) ≡ true
    → is_ok (f (or_none r)) ≡ true
rest_ok (Ok is) f h = onto_ok is (f is) h
rest_ok (Err e) f h = cc

onto_none : (is : List Import) (r : Answered) → is_ok r ≡ true
    → or_none (onto is r) ≡ is ++ or_none r
onto_none is (Ok js) h = refl
onto_none is (Err e) h = cc

both_none : (r : Answered) (f : List Import → Answered) → is_ok (r >>= λ is. onto is (f is)) ≡ true
    → or_none (r >>= λ is. onto is (f is)) ≡ or_none r ++ or_none (f (or_none r))
both_none (Ok is) f h = onto_none is (f is) (onto_ok is (f is) h)
both_none (Err e) f h = cc

module _ (ss : List Section) (dir : DataDirectory) (n look slot : ℕ) (d : List ℕ)
    (reads : CanReadOthers ss dir n) (some : dir.size ≢ 0)
    (is : stored ss (dir.rva + 20 * n) 20 ≡ Some d) (z : is_zero d ≡ false)
    (e1 : look ≡ lookups (field 4 d 0) (field 4 d 16)) (e2 : slot ≡ field 4 d 16)
    (low : look < 2 ^ 32) (small : slot < 2 ^ 32) where
  abbrev pub new_table : LookupTable
  new_table = record { lookups = look; slots = slot; read = 0 }

  these : Answered
  these = entries_of ss 0 d

  after : List Import → Answered
  after is = libraries (max_count - (n + 1)) ss (0 + length is) (dir.rva + 20 * n + 20)

  whole_ok : is_ok (libraries (max_count - n) ss 0 (dir.rva + 20 * n)) ≡ true
  whole_ok = sym (ap is_ok (some_directory (libraries (max_count - n) ss 0 (dir.rva + 20 * n))
      dir.size some)) ∙ reads.others

  more_left : n < max_count
  more_left = elim (cases_lt n max_count) [
    | inl lt ↦ lt
    | inr ge ↦ absurd (ok_libraries (max_count - n) ss (dir.rva + 20 * n) whole_ok (omega arith))
  ]

  whole_is : libraries (max_count - n) ss 0 (dir.rva + 20 * n)
      ≡ (these >>= λ is. onto is (after is))
  unfolding these after
  whole_is = let lt = more_left in library_first ss 0 (dir.rva + 20 * n) (max_count - n)
      (max_count - (n + 1)) d (omega arith) is z

  both_ok : is_ok (these >>= λ is. onto is (after is)) ≡ true
  both_ok = sym (ap is_ok whole_is) ∙ whole_ok

  same_these : these ≡ entries ss new_table
  unfolding these
  same_these =
      let l : lookups (field 4 d 0) (field 4 d 16) ≡ look + 8 * 0 = omega (arith, e1) in
      let s : field 4 d 16 ≡ slot + 8 * 0 = omega (arith, e2) in
      ap (λ k. library max_count ss 0 k (field 4 d 16)) l
      ∙ ap (library max_count ss 0 (look + 8 * 0)) s

  same_after : (is : List Import) → result_ok (after is) ≡ result_ok (others ss dir (n + 1))
  unfolding after
  same_after is =
      let a : dir.rva + 20 * n + 20 ≡ dir.rva + 20 * (n + 1) = omega arith in
      same_libraries (max_count - (n + 1)) ss (0 + length is) 0 (dir.rva + 20 * n + 20)
      ∙ ap (λ k. result_ok (libraries (max_count - (n + 1)) ss 0 k)) a
      ∙ sym (ap result_ok (some_directory
      (libraries (max_count - (n + 1)) ss 0 (dir.rva + 20 * (n + 1))) dir.size some))

  pub libraries_first : or_none (others ss dir n)
      ≡ or_none (entries ss new_table) ++ or_none (others ss dir (n + 1))
  libraries_first =
      ap or_none (some_directory (libraries (max_count - n) ss 0 (dir.rva + 20 * n)) dir.size some
      ∙ whole_is)
      ∙ both_none these after both_ok
      ∙ ap (λ is. is ++ or_none (after (or_none these))) (ap or_none same_these)
      ∙ ap (λ is. or_none (entries ss new_table) ++ is) (none_same (after (or_none these))
      (others ss dir (n + 1)) (same_after (or_none these)))

  pub library_reads : CanReadTable ss new_table
  library_reads = record {
    lookups = low;
    slots = small;
    read = omega arith;
    entries = sym (ap is_ok same_these) ∙ first_ok these after both_ok;
  }

  pub libraries_read : CanReadOthers ss dir (n + 1)
  libraries_read = let lt = more_left in record {
    number = omega arith;
    others = ok_same (after (or_none these)) (others ss dir (n + 1)) (same_after (or_none these))
        (rest_ok these after both_ok);
  }
