-- The scope records of a routine are of code in the image.
use Rattle.std.proofs.Common.{◌≡◌, ℕ, zero, suc, ◌+◌, ◌^◌, ◌<◌, ◌≤◌, Bool, true, List, [], ◌∷◌, length, get_or, Ok, refl, ap, ◌∙◌, arith, inl, inr}
use Rattle.std.specs.List.{AllByRecursion}
use Rattle.std.proofs.lemmas.Bool.{lt-ltb}
use Rattle.image_tables.specs.Words.{◌>>=◌, ScopeRecord, Region, RegionKind, LinearBody, Layout, body_size, AreParts, hot_code, cold_code, label_at, label_list, address_or, handler_address, jump_target, scope_record, scope_records, IsRange, unless, IsScopeRecord}
use Rattle.eh_tables.specs.declared.refusal.TableErr.TheVariants as refusals
use Rattle.eh_tables.specs.Scopes.{is_within, checked}
use Rattle.linear_code.specs.declared.program.RegionKind.TheVariants as kinds
use Rattle.image_tables.proofs.Labels.{IsBetween, label_is, label_between, labels_rise}

-- ---- rows that pass

within : (size b e h j : ℕ) → b < e → b < size → e < size → h < size → j < size
    → is_within size (record { begin = b; end = e; handler_address = h; jump_target = j }) ≡ true
within size b e h j l1 l2 l3 l4 l5 =
    let e1 = lt-ltb b e l1 in
    let e2 = lt-ltb b size l2 in
    let e3 = lt-ltb e size l3 in
    let e4 = lt-ltb h size l4 in
    let e5 = lt-ltb j size l5 in
    rw (e1, e2, e3, e4, e5) refl

abbrev pub AreWithin : ℕ → List ScopeRecord → Type 0
AreWithin size rows = AllByRecursion (λ r. is_within size r ≡ true) rows

pub checked_is : (index size n : ℕ) (rows : List ScopeRecord) → AreWithin size rows
    → checked index size n rows ≡ Ok tt
checked_is index size n [] all = refl
checked_is index size n (r ∷ rows) all =
    ap (λ (b : Bool). unless b (refusals.ScopeRange index n)
    >>= λ _. checked index size (n + 1) rows) all.0
    ∙ checked_is index size (n + 1) rows all.1

-- ---- addresses

abbrev pub AreBelow : ℕ → List ℕ → Type 0
AreBelow size xs = AllByRecursion (λ a. a < size) xs

pub below_at : (size : ℕ) (xs : List ℕ) (i d : ℕ) → AreBelow size xs → d < size
    → get_or xs i d < size
below_at size [] zero d all lt = lt
below_at size [] (suc i) d all lt = lt
below_at size (x ∷ xs) zero d all lt = all.0
below_at size (x ∷ xs) (suc i) d all lt = below_at size xs i d all.1 lt

-- ---- the records of regions

-- of a body with its code from one address on, and its cold parts from another
module _ (funclets : List ℕ) (y : Layout) (start cold : ℕ) (b : LinearBody) (end size : ℕ)
    (parts : AreParts 0 b.cold (length b.code)) (ends : end ≡ start + body_size y (hot_code b))
    (inside : end < size) (cold_inside : cold + body_size y (cold_code b) < size)
    (few : AreBelow size funclets) (some : 1 < size) where
  abbrev labels : List ℕ
  labels = label_list y b.cold 0 start cold b.code

  handler_below : (k : RegionKind) → handler_address funclets k < size
  handler_below (kinds.Finally funclet) = below_at size funclets funclet 0 few (omega arith)
  handler_below (kinds.Filter funclet target) = below_at size funclets funclet 0 few (omega arith)
  handler_below (kinds.Always target) = some

  between_below : (a : ℕ) → IsBetween y b.cold start cold b.code parts a → a < size
  between_below a (inl h) = let most = h.1 in omega arith
  between_below a (inr h) = let most = h.1 in omega arith

  pub label_below : (i : ℕ)
      → address_or (label_list y b.cold 0 start cold b.code) i end < size
  label_below i =
      let m = between_below (label_at y start cold b.cold b.code i)
      (label_between y b.cold start cold b.code parts i) in
      let e = label_is y b.cold start cold b.code parts i end ends in
      omega arith

  target_below : (k : RegionKind) → jump_target labels end k < size
  target_below (kinds.Finally funclet) = omega arith
  target_below (kinds.Filter funclet target) = label_below target
  target_below (kinds.Always target) = label_below target

  row_within : (r : Region) → IsRange b r
      → is_within size (scope_record funclets labels end r) ≡ true
  row_within r range =
      let some' = range.some in
      let in' = range.inside in
      let z : r.begin ≤ r.begin = omega arith in
      let w : r.end ≤ r.end = omega arith in
      let rise = labels_rise y b.cold start cold b.code parts r.begin r.end some' (omega arith)
      (range.hot r.begin z (omega arith)) (range.hot r.end (omega arith) w) in
      let from = label_is y b.cold start cold b.code parts r.begin end ends in
      let to = label_is y b.cold start cold b.code parts r.end end ends in
      within size
      (address_or labels r.begin end)
      (address_or labels r.end end)
      (handler_address funclets r.kind)
      (jump_target labels end r.kind)
      (omega arith)
      (label_below r.begin)
      (label_below r.end)
      (handler_below r.kind)
      (target_below r.kind)

  pub rows_within : (rs : List Region) → AllByRecursion (IsRange b) rs
      → AreWithin size (scope_records funclets (label_list y b.cold 0 start cold b.code) end rs)
  rows_within [] all = tt
  rows_within (r ∷ rs) all = (row_within r all.0, rows_within rs all.1)

  pub rows_small : (rs : List Region) → size ≤ 2 ^ 32
      → AllByRecursion IsScopeRecord
      (scope_records funclets (label_list y b.cold 0 start cold b.code) end rs)
  rows_small [] le = tt
  rows_small (r ∷ rs) le =
      let b = label_below r.begin in
      let e = label_below r.end in
      let h = handler_below r.kind in
      let j = target_below r.kind in (
        record {
          begin = omega arith;
          end = omega arith;
          handler = omega arith;
          jump = omega
              arith;
        },
        rows_small rs le,
      )
