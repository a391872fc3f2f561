-- No size of raw data passes the pages of the sections.
use Rattle.std.proofs.Common.{◌^◌, ◌<◌, ◌≤◌, Bool, true, false, not, cond, List, [], ◌∷◌, filter, sum_by, arith}
use Rattle.std.specs.List.{AllByRecursion}
use Rattle.std.proofs.lemmas.List.Sums.{sum_by-cons}
use Rattle.pe_write.specs.Written.{SectionParts, IsSection, pages, raw_size, is_code, code_size, data_size, end_of}

pub raw_below : (s : SectionParts) → IsSection s → raw_size s ≤ pages s.size
raw_below s fits = omega (arith, fits.stored)

some_below : (p : SectionParts → Bool) (ss : List SectionParts) → AllByRecursion IsSection ss
    → sum_by raw_size (filter p ss) ≤ sum_by (λ s. pages s.size) ss
some_below p [] fits = omega arith
some_below p (s ∷ ss) fits =
    let others = some_below p ss fits.1 in
    let one = raw_below s fits.0 in
    let all = sum_by-cons (λ s. pages s.size) s ss in
    elim (p s) as (λ b. sum_by raw_size (cond b (s ∷ filter p ss) (filter p ss))
    ≤ sum_by (λ s. pages s.size) (s ∷ ss)) [
      | true ↦ let some = sum_by-cons raw_size s (filter p ss) in omega arith
      | false ↦ omega arith
    ]

pub code_fits : (ss : List SectionParts) → AllByRecursion IsSection ss → end_of ss < 2 ^ 32
    → code_size ss < 2 ^ 32
code_fits ss fits end = let below = some_below is_code ss fits in omega arith

pub data_fits : (ss : List SectionParts) → AllByRecursion IsSection ss → end_of ss < 2 ^ 32
    → data_size ss < 2 ^ 32
data_fits ss fits end = let below = some_below (λ s. not (is_code s)) ss fits in omega arith
