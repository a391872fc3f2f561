-- One entry of a function table.
use Rattle.std.proofs.Common.{◌≡◌, ℕ, zero, suc, ◌+◌, ◌*◌, ◌/◌, ◌≤◌, ◌<◌, Ok, Err, List, ◌∷◌, length, drop, get_or, drop-cons, refl, sym, ap, ◌∙◌, arith}
use Rattle.std.proofs.lemmas.List.{drop-drop}
use Rattle.byteorder.specs.Endian.{little_number}
use Rattle.eh_tables.specs.Words.{field, Image, RuntimeFunction, ◌>>=◌, prepend, Table, range_at, Entry, entry, ranges, ranges_in, no_range, end_before, entries, passed}

-- ---- the directory

pub range_count : (n : ℕ) (xs : List ℕ) → length (ranges n xs) ≡ n
range_count zero xs = refl
range_count (suc n) xs = ap suc (range_count n (drop 12 xs))

-- an entry lies within the directory
pub range_within : (k : ℕ) (xs : List ℕ) → k < length (ranges_in xs) → 12 * k + 12 ≤ length xs
range_within k xs lt = omega (arith, range_count (length xs / 12) xs)

further : (xs : List ℕ) (at k : ℕ) → k ≡ at + 12 → field 4 (drop 12 xs) at ≡ field 4 xs k
further xs at k e = ap (little_number 4) (drop-drop at 12 xs ∙ ap (λ n. drop n xs) (omega arith))

range_further : (xs : List ℕ) (at : ℕ) → range_at (drop 12 xs) at ≡ range_at xs (at + 12)
range_further xs at =
    let first = further xs (at + 0) (at + 12 + 0) (omega arith) in
    let second = further xs (at + 4) (at + 12 + 4) (omega arith) in
    let third = further xs (at + 8) (at + 12 + 8) (omega arith) in
    λ i. record { begin = first i; end = second i; unwind_info = third i }

pub range_is : (n k : ℕ) (xs : List ℕ) → k < n
    → range_at xs (12 * k) ≡ get_or (ranges n xs) k no_range
range_is zero k xs lt = absurd (omega arith)
range_is (suc n) zero xs lt = refl
range_is (suc n) (suc k) xs lt =
    let e : 12 * suc k ≡ 12 * k + 12 = omega arith in
    ap (range_at xs) e ∙ sym (range_further xs (12 * k)) ∙ range_is n k (drop 12 xs) (omega arith)

-- ---- one entry more is read

module _ (image : Image) (index : ℕ) (rs : List RuntimeFunction) where
  pub here : index < length rs → drop index rs ≡ get_or rs index no_range ∷ drop (index + 1) rs
  here lt = let e : suc index ≡ index + 1 = omega arith in drop-cons rs index no_range lt
      ∙ ap (λ n. get_or rs index no_range ∷ drop n rs) e

  passed_more : (x : Entry) (r : Table (List Entry)) → passed (prepend x r) ≡ passed r
  passed_more x (Ok xs) = refl
  passed_more x (Err e) = refl

  end_next : (k : ℕ) → k ≡ suc index → end_before rs k ≡ (get_or rs index no_range).end
  end_next zero e = absurd (omega arith)
  end_next (suc k) e = let h : k ≡ index = omega arith in ap (λ n. (get_or rs n no_range).end) h

  pub continues : (x : Entry) → index < length rs
      → entry image index (end_before rs index) (get_or rs index no_range) ≡ Ok x
      → passed (entries image (index + 1) (end_before rs (index + 1)) (drop (index + 1) rs))
      ≡ passed (entries image index (end_before rs index) (drop index rs))
  continues x lt is =
      ap (λ n. passed (entries image (index + 1) n (drop (index + 1) rs)))
      (end_next (index + 1) (omega arith))
      ∙ sym (passed_more x (entries image (index + 1) (get_or rs index no_range).end
      (drop (index + 1) rs)))
      ∙ sym (ap (λ (t : Table Entry). passed (t
      >>= λ y. prepend y (entries image (index + 1) (get_or rs index no_range).end
      (drop (index + 1) rs)))) is)
      ∙ sym (ap (λ t. passed (entries image index (end_before rs index) t)) (here lt))

-- ---- all entries
