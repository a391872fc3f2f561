-- The entry whose range covers an address, by where the ranges end.
use Rattle.std.proofs.Common.{◌≡◌, ℕ, zero, suc, ◌+◌, ◌≤◌, ◌<◌, Some, None, Ok, Err, List, [], ◌∷◌, length, drop, drop-cons, get_or, refl, sym, ap, ◌∙◌, arith}
use Rattle.std.specs.Prelude.{nat_le, nat_lt}
use Rattle.std.proofs.lemmas.Bool.{ltb-true, leb-true}
use Rattle.eh_tables.specs.Words.{RuntimeFunction, TableErr, ◌>>=◌, unless, Table, no_range, end_before}
use Rattle.eh_tables.specs.declared.refusal.TableErr.TheVariants as refusals
use Rattle.eh_tables.specs.Known.{range_checked}
use Rattle.eh_tables.specs.Covering.{ranges_checked, RangesAscend, index_or, index_from}
use Rattle.eh_tables.proofs.Lookups.{given, holds_then, below_begin, past_end, within}

-- ---- one range and the others

record Split (index last : ℕ) (r : RuntimeFunction) (rs : List RuntimeFunction) : Type 0 where
  sorted : last ≤ r.begin
  some : r.begin < r.end
  others : ranges_checked (index + 1) r.end rs ≡ Ok tt

split : (index last : ℕ) (r : RuntimeFunction) (rs : List RuntimeFunction)
    → ranges_checked index last (r ∷ rs) ≡ Ok tt → Split index last r rs
split index last r rs h =
    let one = given (range_checked index last r) (λ _. ranges_checked (index + 1) r.end rs) tt h in
    let two = given (unless (nat_lt r.begin r.end) (refusals.EmptyRange index))
    (λ _. unless (nat_le last r.begin) (refusals.Unsorted index)) one.value one.first in
    record {
      sorted = leb-true last r.begin (holds_then (nat_le last r.begin) (refusals.Unsorted index)
          one.value two.then);
      some = ltb-true r.begin r.end (holds_then (nat_lt r.begin r.end) (refusals.EmptyRange index)
          two.value two.first);
      others = one.then;
    }

-- ---- the index that is found

none_from : (index last : ℕ) (rs : List RuntimeFunction) (rva : ℕ)
    → ranges_checked index last rs ≡ Ok tt → rva < last → index_from index rva rs ≡ None
none_from index last [] rva h lt = refl
none_from index last (r ∷ rs) rva h lt =
    let s = split index last r rs h in
    let sorted = s.sorted in
    let some = s.some in
    ap (index_or (index_from (index + 1) rva rs) index) (below_begin rva r (omega arith))
    ∙ none_from (index + 1) r.end rs rva s.others (omega arith)

record Before (rs : List RuntimeFunction) (k rva : ℕ) : Type 0 where
  pub passed : (j : ℕ) → j < k → (get_or rs j no_range).end ≤ rva

before_rest : (r : RuntimeFunction) (rs : List RuntimeFunction) (k rva : ℕ)
    → Before (r ∷ rs) (suc k) rva → Before rs k rva
before_rest r rs k rva b = record { passed = λ j lt. b.passed (suc j) (omega arith) }

all_past : (index : ℕ) (rs : List RuntimeFunction) (rva : ℕ) → Before rs (length rs) rva
    → index_from index rva rs ≡ None
all_past index [] rva b = refl
all_past index (r ∷ rs) rva b =
    ap (index_or (index_from (index + 1) rva rs) index)
    (past_end rva r (b.passed 0 (omega arith)))
    ∙ all_past (index + 1) rs rva (before_rest r rs (length rs) rva b)

gap : (index last : ℕ) (rs : List RuntimeFunction) (rva k : ℕ)
    → ranges_checked index last rs ≡ Ok tt → Before rs k rva → k < length rs
    → rva < (get_or rs k no_range).begin → index_from index rva rs ≡ None
gap index last [] rva k h b lt under = refl
gap index last (r ∷ rs) rva zero h b lt under =
    let s = split index last r rs h in
    let some = s.some in
    ap (index_or (index_from (index + 1) rva rs) index) (below_begin rva r under)
    ∙ none_from (index + 1) r.end rs rva s.others (omega arith)
gap index last (r ∷ rs) rva (suc k) h b lt under =
    let s = split index last r rs h in
    ap (index_or (index_from (index + 1) rva rs) index)
    (past_end rva r (b.passed 0 (omega arith)))
    ∙ gap (index + 1) r.end rs rva k s.others (before_rest r rs k rva b) (omega arith) under

hit : (index : ℕ) (rs : List RuntimeFunction) (rva k : ℕ) → Before rs k rva → k < length rs
    → (get_or rs k no_range).begin ≤ rva → rva < (get_or rs k no_range).end
    → index_from index rva rs ≡ Some (index + k)
hit index [] rva k b lt le under = absurd (omega arith)
hit index (r ∷ rs) rva zero b lt le under =
    let e : index ≡ index + 0 = omega arith in
    ap (index_or (index_from (index + 1) rva rs) index) (within rva r le under) ∙ ap Some e
hit index (r ∷ rs) rva (suc k) b lt le under =
    let e : index + 1 + k ≡ index + suc k = omega arith in
    ap (index_or (index_from (index + 1) rva rs) index)
    (past_end rva r (b.passed 0 (omega arith)))
    ∙ hit (index + 1) rs rva k (before_rest r rs k rva b) (omega arith) le under ∙ ap Some e

-- ---- begins and ends rise

begin_above : (index last : ℕ) (rs : List RuntimeFunction) (k : ℕ)
    → ranges_checked index last rs ≡ Ok tt → k < length rs → last ≤ (get_or rs k no_range).begin
begin_above index last [] k h lt = absurd (omega arith)
begin_above index last (r ∷ rs) zero h lt = let s = split index last r rs h in s.sorted
begin_above index last (r ∷ rs) (suc k) h lt =
    let s = split index last r rs h in
    let sorted = s.sorted in
    let some = s.some in
    let later = begin_above (index + 1) r.end rs k s.others (omega arith) in
    omega arith

not_empty : (index last : ℕ) (rs : List RuntimeFunction) (k : ℕ)
    → ranges_checked index last rs ≡ Ok tt → k < length rs
    → (get_or rs k no_range).begin < (get_or rs k no_range).end
not_empty index last [] k h lt = absurd (omega arith)
not_empty index last (r ∷ rs) zero h lt = let s = split index last r rs h in s.some
not_empty index last (r ∷ rs) (suc k) h lt =
    let s = split index last r rs h in
    not_empty (index + 1) r.end rs k s.others (omega arith)

in_order : (index last : ℕ) (rs : List RuntimeFunction) (j k : ℕ)
    → ranges_checked index last rs ≡ Ok tt → j < k → k < length rs
    → (get_or rs j no_range).end ≤ (get_or rs k no_range).begin
in_order index last [] j k h below lt = absurd (omega arith)
in_order index last (r ∷ rs) j zero h below lt = absurd (omega arith)
in_order index last (r ∷ rs) zero (suc k) h below lt =
    let s = split index last r rs h in
    begin_above (index + 1) r.end rs k s.others (omega arith)
in_order index last (r ∷ rs) (suc j) (suc k) h below lt =
    let s = split index last r rs h in
    in_order (index + 1) r.end rs j k s.others (omega arith) (omega arith)

-- ---- in a table whose ranges ascend

module _ (rs : List RuntimeFunction) (up : RangesAscend rs) where
  -- no range begins below the end of one before it
  pub range_ends_below : (j k : ℕ) → j < k → k < length rs
      → (get_or rs j no_range).end ≤ (get_or rs k no_range).begin
  range_ends_below j k below lt = in_order 0 0 rs j k up.checked below lt

  pub range_not_empty : (k : ℕ) → k < length rs
      → (get_or rs k no_range).begin < (get_or rs k no_range).end
  range_not_empty k lt = not_empty 0 0 rs k up.checked lt

  module _ (rva k : ℕ) (below : (j : ℕ) → j < k → (get_or rs j no_range).end ≤ rva) where
    pub covers_none_past : length rs ≡ k → index_from 0 rva rs ≡ None
    covers_none_past e = all_past 0 rs rva
        (record { passed = λ j lt. below j (omega arith) })

    pub covers_none_between : k < length rs → rva < (get_or rs k no_range).begin
        → index_from 0 rva rs ≡ None
    covers_none_between lt under = gap 0 0 rs rva k up.checked (record { passed = below }) lt under

    pub covers : k < length rs → (get_or rs k no_range).begin ≤ rva
        → rva < (get_or rs k no_range).end → index_from 0 rva rs ≡ Some k
    covers lt le under =
        let e : 0 + k ≡ k = omega arith in
        hit 0 rs rva k (record { passed = below }) lt le under ∙ ap Some e

-- ---- one range more is checked

module _ (index : ℕ) (rs : List RuntimeFunction) (lt : index < length rs) where
  here : drop index rs ≡ get_or rs index no_range ∷ drop (index + 1) rs
  here = let e : suc index ≡ index + 1 = omega arith in drop-cons rs index no_range lt
      ∙ ap (λ n. get_or rs index no_range ∷ drop n rs) e

  end_next : (k : ℕ) → k ≡ suc index → end_before rs k ≡ (get_or rs index no_range).end
  end_next zero e = absurd (omega arith)
  end_next (suc k) e = let h : k ≡ index = omega arith in ap (λ n. (get_or rs n no_range).end) h

  pub ranges_go_on : (u : Unit {0})
      → Ok u ≡ range_checked index (end_before rs index) (get_or rs index no_range)
      → ranges_checked (index + 1) (end_before rs (index + 1)) (drop (index + 1) rs)
      ≡ ranges_checked index (end_before rs index) (drop index rs)
  ranges_go_on u is =
      ap (λ n. ranges_checked (index + 1) n (drop (index + 1) rs))
      (end_next (index + 1) (omega arith))
      ∙ ap (λ (t : Table Unit). t
      >>= λ _. ranges_checked (index + 1) (get_or rs index no_range).end (drop (index + 1) rs)) is
      ∙ sym (ap (ranges_checked index (end_before rs index)) here)

  pub ranges_end_here : (e : TableErr)
      → Err e ≡ range_checked index (end_before rs index) (get_or rs index no_range)
      → ranges_checked index (end_before rs index) (drop index rs) ≡ Err e
  ranges_end_here e is =
      ap (ranges_checked index (end_before rs index)) here
      ∙ sym (ap (λ (t : Table Unit). t
      >>= λ _. ranges_checked (index + 1) (get_or rs index no_range).end (drop (index + 1) rs)) is)
