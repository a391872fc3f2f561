-- How many imports there are at most: fewer than addresses in a library, and as many libraries.
use Rattle.std.proofs.Common.{◌≡◌, ℕ, zero, suc, ◌+◌, ◌*◌, ◌≤◌, ◌<◌, ◌^◌, Bool, true, false, Option, Some, None, Ok, Err, List, [], ◌∷◌, ◌++◌, length, length-append, refl, ap, eqb, arith}
use Rattle.byteorder.specs.Endian.{little_number}
use Rattle.pe_image.specs.declared.directory.DataDirectory.{DataDirectory}
use Rattle.pe_image.specs.declared.refusal.ImageErr.TheVariants as refusals
use Rattle.seh_num.specs.Answers.{◌>>=◌, or_refused, prepend, onto}
use Rattle.pe_image.specs.Image.{Section, stored}
use Rattle.pe_image.specs.Imports.{Import, import_at, next_entry, library, is_zero, entries_of, next_library, libraries, max_count, unless_none, imports_in, or_none}
use Rattle.pe_image.proofs.Imported.{Answered}

short_prepend : (i : Import) (r : Answered) (n : ℕ) (js : List Import)
    → ((is : List Import) → r ≡ Ok is → length is < n) → prepend i r ≡ Ok js → length js < n + 1
short_prepend i (Ok is) n js h e = let same : i ∷ is ≡ js = cc in let lt = h is refl in
    omega (arith, ap length same)
short_prepend i (Err f) n js h e = absurd cc

short_library : (n : ℕ) (ss : List Section) (index look slot : ℕ) (is : List Import)
    → library n ss index look slot ≡ Ok is → length is < n
unfolding library
short_library zero ss index look slot is e = absurd cc
short_library (suc n) ss index look slot is e = go (stored ss look 8) e
    (λ js h. short_library n ss (index + 1) (look + 8) (slot + 8) js h)
  where
    found : (o : Option Import) → (or_refused o (refusals.ImportBad index)
        >>= λ i. prepend i (library n ss (index + 1) (look + 8) (slot + 8))) ≡ Ok is
        → ((js : List Import) → library n ss (index + 1) (look + 8) (slot + 8) ≡ Ok js
        → length js < n) → length is < n + 1
    found None h rest = absurd cc
    found (Some i) h rest =
        short_prepend i (library n ss (index + 1) (look + 8) (slot + 8)) n is rest h

    next : (k : ℕ) → next_entry ss index slot (library n ss (index + 1) (look + 8) (slot + 8)) k
        ≡ Ok is → ((js : List Import) → library n ss (index + 1) (look + 8) (slot + 8) ≡ Ok js
        → length js < n) → length is < n + 1
    next zero h rest = let same : [] ≡ is = cc in omega (arith, ap length same)
    next (suc k) h rest = found (import_at ss slot (suc k)) h rest

    go : (o : Option (List ℕ)) → (or_refused o (refusals.ImportBad index) >>= λ b. next_entry ss
        index slot (library n ss (index + 1) (look + 8) (slot + 8)) (little_number 8 b)) ≡ Ok is
        → ((js : List Import) → library n ss (index + 1) (look + 8) (slot + 8) ≡ Ok js
        → length js < n) → length is < suc n
    go None h rest = absurd cc
    go (Some b) h rest = let lt = next (little_number 8 b) h rest in omega arith

joined : (is : List Import) (r : Answered) (n : ℕ) (all : List Import)
    → length is ≤ 4294967295 → ((js : List Import) → r ≡ Ok js → length js ≤ n * 4294967295)
    → onto is r ≡ Ok all → length all ≤ suc n * 4294967295
joined is (Ok js) n all few h e = let same : is ++ js ≡ all = cc in let le = h js refl in
    omega (arith, ap length same, length-append is js)
joined is (Err f) n all few h e = absurd cc

few_imports : (n : ℕ) (ss : List Section) (index at : ℕ) (all : List Import)
    → libraries n ss index at ≡ Ok all → length all ≤ n * 4294967295
unfolding libraries
few_imports zero ss index at all h = absurd cc
few_imports (suc n) ss index at all h = go (stored ss at 20) h
    (λ k js e. few_imports n ss k (at + 20) js e)
  where
    these : (d : List ℕ) (r : Answered) → entries_of ss index d ≡ r
        → (r >>= λ is. onto is (libraries n ss (index + length is) (at + 20))) ≡ Ok all
        → ((k : ℕ) (js : List Import) → libraries n ss k (at + 20) ≡ Ok js
        → length js ≤ n * 4294967295) → length all ≤ suc n * 4294967295
    these d (Err e) is h rest = absurd cc
    these d (Ok is) e h rest =
        let lt = short_library max_count ss index _ _ is e in
        joined is (libraries n ss (index + length is) (at + 20)) n all (omega arith)
        (rest (index + length is)) h

    next : (d : List ℕ) (b : Bool) → next_library
        (λ is. libraries n ss (index + length is) (at + 20)) (entries_of ss index d) b ≡ Ok all
        → ((k : ℕ) (js : List Import) → libraries n ss k (at + 20) ≡ Ok js
        → length js ≤ n * 4294967295) → length all ≤ suc n * 4294967295
    next d true h rest = let same : [] ≡ all = cc in omega (arith, ap length same)
    next d false h rest = these d (entries_of ss index d) refl h rest

    go : (o : Option (List ℕ)) → (or_refused o (refusals.ImportBad index)
        >>= λ d. next_library (λ is. libraries n ss (index + length is) (at + 20))
        (entries_of ss index d) (is_zero d)) ≡ Ok all
        → ((k : ℕ) (js : List Import) → libraries n ss k (at + 20) ≡ Ok js
        → length js ≤ n * 4294967295) → length all ≤ suc n * 4294967295
    go None h rest = absurd cc
    go (Some d) h rest = next d (is_zero d) h rest

pub imports_fit : (ss : List Section) (d : DataDirectory)
    → length (or_none (imports_in ss d)) < 2 ^ 64
imports_fit ss d = go (eqb d.size 0)
  where
    listed : (r : Answered) → libraries max_count ss 0 d.rva ≡ r → length (or_none r) < 2 ^ 64
    listed (Ok is) e = let le = few_imports max_count ss 0 d.rva is e in omega arith
    listed (Err f) e = omega arith

    go : (b : Bool) → length (or_none (unless_none (libraries max_count ss 0 d.rva) b)) < 2 ^ 64
    go true = omega arith
    go false = listed (libraries max_count ss 0 d.rva) refl
