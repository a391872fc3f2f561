-- Tables of stretches: which pages they have, and where these are kept.
use Rattle.std.proofs.Common.{◌≡◌, ◌≢◌, ℕ, zero, suc, ◌+◌, ◌-◌, ◌<◌, ◌≤◌, true, false, cond, eqb, List, [], ◌∷◌, ◌++◌, length, get_or, set, replicate, Option, Some, None, refl, sym, ap, ◌∙◌, arith, inl, inr, ◌⊎◌, eq-eqb, subst}
use Rattle.std.specs.Prelude.{slice_get}
use Rattle.std.specs.List.Sorted.{IsNonDecreasingBy}
use Rattle.std.proofs.lemmas.Bool.{cases_eq, cases_lt, ne_eqb, lt-ltb, le-ltb, le-leb, lt-leb, cond-true, cond-false}
use Rattle.std.proofs.lemmas.Option.{same_Some, none-some, slice_get_read}
use Rattle.x64_memory.specs.Words.{Page, Stretch, has_number, index_of, page_at, page_numbered, AreOrdered, count_from, end_from}

-- ---- one stretch

pub within : (s : Stretch) (k : ℕ) → s.first ≤ k → k < s.end → has_number s k ≡ true
within s k le lt = rw (le-leb s.first k le, lt-ltb k s.end lt) refl

pub before : (s : Stretch) (k : ℕ) → k < s.first → has_number s k ≡ false
before s k lt = rw (lt-leb s.first k lt) refl

pub past : (s : Stretch) (k : ℕ) → s.end ≤ k → has_number s k ≡ false
past s k ge = elim (cases_lt k s.first) [
  | inl lt ↦ before s k lt
  | inr le ↦ rw
      (le-leb s.first k le, le-ltb k s.end ge) refl
]

cases_stretch : (s : Stretch) (k : ℕ) → ((s.first ≤ k) × (k < s.end)) ⊎ (has_number s k ≡ false)
cases_stretch s k = elim (cases_lt k s.first) [
  | inl lt ↦ inr (before s k lt)
  | inr le ↦ elim (cases_lt k s.end) [ inl lt ↦ inl (le, lt) | inr ge ↦ inr (past s k ge) ]
]

index_here : (s : Stretch) (ss : List Stretch) (k : ℕ) → s.first ≤ k → k < s.end
    → index_of (s ∷ ss) k ≡ Some (s.index + (k - s.first))
index_here s ss k le lt = cond-true (has_number s k) (Some (s.index + (k - s.first)))
    (index_of ss k) (within s k le lt)

index_past : (s : Stretch) (ss : List Stretch) (k : ℕ) → has_number s k ≡ false
    → index_of (s ∷ ss) k ≡ index_of ss k
index_past s ss k e = cond-false (has_number s k) (Some (s.index + (k - s.first))) (index_of ss k) e

-- ---- stretches in order

none_below : (low from : ℕ) (ss : List Stretch) (k : ℕ) → AreOrdered low from ss → k < low
    → index_of ss k ≡ None
none_below low from [] k ordered lt = refl
none_below low from (s ∷ ss) k ordered lt =
    let order = ordered.0.order in
    let grows = ordered.0.grows in
    index_past s ss k (before s k (omega arith))
    ∙ none_below s.end (from + (s.end - s.first)) ss k ordered.1 (omega arith)

count_rises : (from : ℕ) (ss : List Stretch) → from ≤ count_from from ss
count_rises from [] = omega arith
count_rises from (s ∷ ss) = let rest = count_rises (from + (s.end - s.first)) ss in omega arith

end_rises : (low from : ℕ) (ss : List Stretch) → AreOrdered low from ss → low ≤ end_from low ss
end_rises low from [] ordered = omega arith
end_rises low from (s ∷ ss) ordered =
    let order = ordered.0.order in
    let grows = ordered.0.grows in
    let rest = end_rises s.end (from + (s.end - s.first)) ss ordered.1 in
    omega arith

-- each page is kept among those that are counted
pub index_in : (low from : ℕ) (ss : List Stretch) (k i : ℕ) → AreOrdered low from ss
    → index_of ss k ≡ Some i → (from ≤ i) × (i < count_from from ss)
index_in low from [] k i ordered e = absurd (none-some i e)
index_in low from (s ∷ ss) k i ordered e = elim (cases_stretch s k) [
  | inl h ↦
      let at : s.index + (k - s.first) ≡ i = same_Some _ _ (sym (index_here s ss k h.0 h.1) ∙ e) in
      let kept = ordered.0.kept in
      let more = count_rises (from + (s.end - s.first)) ss in
      let low' = h.0 in
      let high = h.1 in
      (omega arith, omega arith)
  | inr out ↦
      let rest = index_in s.end (from + (s.end - s.first)) ss k i ordered.1
      (sym (index_past s ss k out) ∙ e) in
      let low' = rest.0 in
      (omega arith, rest.1)
]

-- two pages are kept in two places
pub one_number : (low from : ℕ) (ss : List Stretch) (k q i : ℕ) → AreOrdered low from ss
    → index_of ss k ≡ Some i → index_of ss q ≡ Some i → k ≡ q
one_number low from [] k q i ordered e f = absurd (none-some i e)
one_number low from (s ∷ ss) k q i ordered e f = both
    (λ o p. one_number s.end (from + (s.end - s.first)) ss k q i ordered.1
    (sym (index_past s ss k o) ∙ e) (sym (index_past s ss q p) ∙ f)) (cases_stretch s k)
    (cases_stretch s q)
  where
    here : (n : ℕ) → s.first ≤ n → n < s.end → index_of (s ∷ ss) n ≡ Some i
        → i ≡ from + (n - s.first)
    here n le lt g =
        let at : s.index + (n - s.first) ≡ i = same_Some _ _ (sym (index_here s ss n le lt) ∙ g) in
        let kept = ordered.0.kept in
        omega arith

    later : (n : ℕ) → has_number s n ≡ false → index_of (s ∷ ss) n ≡ Some i
        → from + (s.end - s.first) ≤ i
    later n out g = (index_in s.end (from + (s.end - s.first)) ss n i ordered.1
        (sym (index_past s ss n out) ∙ g)).0

    both : (has_number s k ≡ false → has_number s q ≡ false → k ≡ q)
        → ((s.first ≤ k) × (k < s.end)) ⊎ (has_number s k ≡ false)
        → ((s.first ≤ q) × (q < s.end)) ⊎ (has_number s q ≡ false) → k ≡ q
    both again (inl a) (inl b) =
        let x = here k a.0 a.1 e in
        let y = here q b.0 b.1 f in
        let a0 = a.0 in
        let b0 = b.0 in
        omega arith
    both again (inl a) (inr out) =
        let x = here k a.0 a.1 e in
        let y = later q out f in
        let a0 = a.0 in
        let a1 = a.1 in
        absurd (omega arith)
    both again (inr out) (inl b) =
        let x = later k out e in
        let y = here q b.0 b.1 f in
        let b0 = b.0 in
        let b1 = b.1 in
        absurd (omega arith)
    both again (inr o) (inr p) = again o p

-- ---- elements of lists

get_set_same : (xs : List Page) (i : ℕ) (x : Page) → i < length xs
    → slice_get (set xs i x) i ≡ Some x
get_set_same [] i x lt = absurd (omega arith)
get_set_same (y ∷ xs) zero x lt = refl
get_set_same (y ∷ xs) (suc i) x lt = get_set_same xs i x (omega arith)

get_set_other : (xs : List Page) (i j : ℕ) (x : Page) → j ≢ i
    → slice_get (set xs i x) j ≡ slice_get xs j
get_set_other [] i j x n = refl
get_set_other (y ∷ xs) zero zero x n = absurd (n refl)
get_set_other (y ∷ xs) zero (suc j) x n = refl
get_set_other (y ∷ xs) (suc i) zero x n = refl
get_set_other (y ∷ xs) (suc i) (suc j) x n = get_set_other xs i j x (λ e. n (ap suc e))

get_append_left : (xs ys : List Page) (i : ℕ) → i < length xs
    → slice_get (xs ++ ys) i ≡ slice_get xs i
get_append_left [] ys i lt = absurd (omega arith)
get_append_left (x ∷ xs) ys zero lt = refl
get_append_left (x ∷ xs) ys (suc i) lt = get_append_left xs ys i (omega arith)

get_replicate : (n i : ℕ) (x : Page) → i < n → slice_get (replicate n x) i ≡ Some x
get_replicate zero i x lt = absurd (omega arith)
get_replicate (suc n) zero x lt = refl
get_replicate (suc n) (suc i) x lt = get_replicate n i x (omega arith)

get_appended : (xs : List Page) (n i : ℕ) (x : Page) → length xs ≤ i → i < length xs + n
    → slice_get (xs ++ replicate n x) i ≡ Some x
get_appended [] n i x le lt = get_replicate n i x (omega arith)
get_appended (y ∷ xs) n zero x le lt = absurd (omega arith)
get_appended (y ∷ xs) n (suc i) x le lt = get_appended xs n i x (omega arith) (omega arith)

-- ---- one page changed

pub page_set : (ss : List Stretch) (ps : List Page) (k i : ℕ) (p : Page) → AreOrdered 0 0 ss
    → length ps ≡ count_from 0 ss → index_of ss k ≡ Some i → (q : ℕ)
    → page_numbered ss (set ps i p) q ≡ cond (eqb q k) (Some p) (page_numbered ss ps q)
page_set ss ps k i p ordered count at q = elim (cases_eq q k) [
  | inl e ↦
      let in' = (index_in 0 0 ss k i ordered at).1 in
      let lt : i < length ps = omega arith in
      ap (page_at (set ps i p)) (ap (index_of ss) e ∙ at) ∙ get_set_same ps i p lt
      ∙ sym (ap (λ b. cond b (Some p) (page_numbered ss ps q)) (eq-eqb q k e))
  | inr n ↦ other n (index_of ss q) refl ∙ sym
      (ap (λ b. cond b (Some p) (page_numbered ss ps q)) (ne_eqb q k n))
]
  where
    other : q ≢ k → (o : Option ℕ) → index_of ss q ≡ o
        → page_at (set ps i p) (index_of ss q) ≡ page_at ps (index_of ss q)
    other n None e = ap (page_at (set ps i p)) e ∙ sym (ap (page_at ps) e)
    other n (Some j) e =
        let apart : j ≢ i = λ same. n (one_number 0 0 ss q k i ordered (e ∙ ap Some same) at) in
        ap (page_at (set ps i p)) e ∙ get_set_other ps i j p apart ∙ sym (ap (page_at ps) e)

-- the page that is kept at an index
pub page_kept : (ss : List Stretch) (ps : List Page) (k i : ℕ) (p : Page) → index_of ss k ≡ Some i
    → i < length ps → p ≡ get_or ps i p → page_numbered ss ps k ≡ Some p
page_kept ss ps k i p at lt is = ap (page_at ps) at ∙ slice_get_read ps (length ps) i p refl lt is

-- ---- a stretch more

module _ (s : Stretch) (ps : List Page) (z : Page) (kept : s.index ≡ length ps)
    (grows : s.first ≤ s.end) where
  appended : (low from : ℕ) (ss : List Stretch) (k : ℕ) → AreOrdered low from ss
      → count_from from ss ≡ length ps → end_from low ss ≤ s.first
      → page_numbered (ss ++ s ∷ []) (ps ++ replicate (s.end - s.first) z) k
      ≡ cond (has_number s k) (Some z) (page_numbered ss ps k)
  appended low from [] k ordered count above = elim (cases_stretch s k) [
    | inl h ↦
        let le = h.0 in
        let lt = h.1 in
        ap (page_at (ps ++ replicate (s.end - s.first) z)) (index_here s [] k le lt)
        ∙ get_appended ps (s.end - s.first) (s.index + (k - s.first)) z (omega arith)
        (omega arith) ∙ sym (ap (λ b. cond b (Some z) None) (within s k le lt))
    | inr out ↦ ap (page_at (ps ++ replicate (s.end - s.first) z)) (index_past s [] k out)
        ∙ sym (ap (λ b. cond b (Some z) None) out)
  ]
  appended low from (t ∷ ts) k ordered count above = elim (cases_stretch t k) [
    | inl h ↦
        let le = h.0 in
        let lt = h.1 in
        let ends = end_rises t.end (from + (t.end - t.first)) ts ordered.1 in
        let kept' = ordered.0.kept in
        let more = count_rises (from + (t.end - t.first)) ts in
        let old = sym (ap (page_at ps) (index_here t ts k le lt)) in
        ap (page_at (ps ++ replicate (s.end - s.first) z)) (index_here t (ts ++ s ∷ []) k le lt)
        ∙ get_append_left ps (replicate (s.end - s.first) z) (t.index + (k - t.first))
        (omega arith) ∙ old ∙ sym (ap (λ b. cond b (Some z) (page_numbered (t ∷ ts) ps k))
        (before s k (omega arith)))
    | inr out ↦ ap (page_at (ps ++ replicate (s.end - s.first) z))
        (index_past t (ts ++ s ∷ []) k out) ∙ appended t.end
        (from + (t.end - t.first)) ts k ordered.1
        count above ∙ sym (ap (λ o. cond (has_number s k) (Some z) (page_at ps o))
        (index_past t ts k out))
  ]

pub page_added : (s : Stretch) (ss : List Stretch) (ps : List Page) (z : Page) → s.index ≡ length ps
    → s.first ≤ s.end → AreOrdered 0 0 ss → count_from 0 ss ≡ length ps → end_from 0 ss ≤ s.first
    → (k : ℕ) → page_numbered (ss ++ s ∷ []) (ps ++ replicate (s.end - s.first) z) k
    ≡ cond (has_number s k) (Some z) (page_numbered ss ps k)
page_added s ss ps z kept grows ordered count above k =
    appended s ps z kept grows 0 0 ss k ordered count
    above

pub ordered_more : (s : Stretch) (low from : ℕ) (ss : List Stretch) → AreOrdered low from ss
    → end_from low ss ≤ s.first → s.first ≤ s.end → s.index ≡ count_from from ss
    → AreOrdered low from (ss ++ s ∷ [])
ordered_more s low from [] ordered above grows kept =
    (record { order = above; grows = grows; kept = kept }, tt)
ordered_more s low from (t ∷ ts) ordered above grows
    kept = (
      ordered.0,
      ordered_more s t.end (from + (t.end - t.first)) ts ordered.1 above grows
          kept,
    )

pub count_more : (s : Stretch) (from : ℕ) (ss : List Stretch)
    → count_from from (ss ++ s ∷ []) ≡ count_from from ss + (s.end - s.first)
count_more s from [] = refl
count_more s from (t ∷ ts) = count_more s (from + (t.end - t.first)) ts

pub end_more : (s : Stretch) (low : ℕ) (ss : List Stretch) → end_from low (ss ++ s ∷ []) ≡ s.end
end_more s low [] = refl
end_more s low (t ∷ ts) = end_more s t.end ts

-- ---- what is found by halves

lies_above : (low from : ℕ) (ss : List Stretch) (k : ℕ) (d : Stretch) → AreOrdered low from ss
    → k < length ss → low ≤ (get_or ss k d).end
lies_above low from [] k d ordered lt = absurd (omega arith)
lies_above low from (s ∷ ss) zero d ordered lt =
    let order = ordered.0.order in
    let grows = ordered.0.grows in
    omega arith
lies_above low from (s ∷ ss) (suc k) d ordered lt =
    let order = ordered.0.order in
    let grows = ordered.0.grows in
    let rest = lies_above s.end (from + (s.end - s.first)) ss k d ordered.1 (omega arith) in
    omega arith

pub ends_rise : (low from : ℕ) (ss : List Stretch) → AreOrdered low from ss
    → IsNonDecreasingBy (λ s. s.end) ss
ends_rise low from [] ordered i j d le lt = absurd (omega arith)
ends_rise low from (s ∷ ss) ordered i zero d le lt = let e : i ≡ 0 = omega arith in
    subst (λ n. (get_or (s ∷ ss) n d).end ≤ s.end) (sym e) (omega arith)
ends_rise low from (s ∷ ss) ordered zero (suc j) d le lt =
    lies_above s.end (from + (s.end - s.first))
    ss j d ordered.1 (omega arith)
ends_rise low from (s ∷ ss) ordered (suc i) (suc j) d le lt = ends_rise s.end
    (from + (s.end - s.first)) ss ordered.1 i j d (omega arith) (omega arith)

-- a later stretch begins with no lower page
first_above : (low from : ℕ) (ss : List Stretch) (k : ℕ) (d : Stretch) → AreOrdered low from ss
    → k < length ss → low ≤ (get_or ss k d).first
first_above low from [] k d ordered lt = absurd (omega arith)
first_above low from (s ∷ ss) zero d ordered lt = ordered.0.order
first_above low from (s ∷ ss) (suc k) d ordered lt =
    let order = ordered.0.order in
    let grows = ordered.0.grows in
    let above = first_above s.end (from + (s.end - s.first)) ss k d ordered.1 (omega arith) in
    omega arith

-- the stretch that has a page, wherever it stands among the others
pub found_at : (low from : ℕ) (ss : List Stretch) (k j : ℕ) (d : Stretch) → AreOrdered low from ss
    → j < length ss → (get_or ss j d).first ≤ k → k < (get_or ss j d).end
    → index_of ss k ≡ Some ((get_or ss j d).index + (k - (get_or ss j d).first))
found_at low from [] k j d ordered lt le out = absurd (omega arith)
found_at low from (t ∷ ts) k zero d ordered lt le out = index_here t ts k le out
found_at low from (t ∷ ts) k (suc j) d ordered lt le out =
    let above = first_above t.end (from + (t.end - t.first)) ts j d ordered.1 (omega arith) in
    index_past t ts k (past t k (omega arith))
    ∙ found_at t.end (from + (t.end - t.first)) ts k j d ordered.1 (omega arith) le out

-- no stretch has a page at which all of them have ended
pub all_ended : (ss : List Stretch) (k : ℕ) →
    ((m : ℕ) (d : Stretch) → m < length ss → (get_or ss m d).end ≤ k) → index_of ss k ≡ None
all_ended [] k ended = refl
all_ended (s ∷ ss) k ended = index_past s ss k (past s k (ended 0 s (omega arith)))
    ∙ all_ended ss k (λ m d lt. ended (suc m) d (omega arith))

-- the first stretch that ends past a page has it, or none has
pub found : (low from : ℕ) (ss : List Stretch) (k j : ℕ) (d : Stretch) → AreOrdered low from ss
    → ((m : ℕ) (e : Stretch) → m < j → (get_or ss m e).end ≤ k) → j < length ss
    → k < (get_or ss j d).end → (get_or ss j d).first ≤ k
    → index_of ss k ≡ Some ((get_or ss j d).index + (k - (get_or ss j d).first))
found low from [] k j d ordered ended lt out le = absurd (omega arith)
found low from (t ∷ ts) k zero d ordered ended lt out le = index_here t ts k le out
found low from (t ∷ ts) k (suc j) d ordered ended lt out le = index_past t ts k
    (past t k (ended 0 t (omega arith))) ∙ found t.end (from + (t.end - t.first)) ts k j d ordered.1
    (λ m e l. ended (suc m) e (omega arith)) (omega arith) out le

pub found_none : (low from : ℕ) (ss : List Stretch) (k j : ℕ) (d : Stretch) → AreOrdered low from ss
    → ((m : ℕ) (e : Stretch) → m < j → (get_or ss m e).end ≤ k) → j < length ss
    → k < (get_or ss j d).end → k < (get_or ss j d).first → index_of ss k ≡ None
found_none low from [] k j d ordered ended lt out le = absurd (omega arith)
found_none low from (t ∷ ts) k zero d ordered ended lt out le = index_past t ts k (before t k le)
    ∙ none_below t.end (from + (t.end - t.first)) ts k ordered.1 out
found_none low from (t ∷ ts) k (suc j) d ordered ended lt out le = index_past t ts k
    (past t k (ended 0 t (omega arith))) ∙ found_none t.end (from + (t.end - t.first)) ts k j d
    ordered.1 (λ m e l. ended (suc m) e (omega arith)) (omega arith) out le
