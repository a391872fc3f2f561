-- Among ranges in order, the last that begins at or below an address is the one that may hold it.
use Rattle.std.proofs.Common.{◌≡◌, ℕ, zero, suc, ◌+◌, ◌-◌, ◌^◌, ◌<◌, ◌≤◌, Bool, true, false, List, [], ◌∷◌, length, drop, get_or, ◌≢◌, ltb, leb, Option, Some, None, Ok, refl, sym, ap, subst, ◌∙◌, inl, inr, arith}
use Rattle.std.specs.Prelude.{◌⊎◌, ◌&&◌}
use Rattle.std.specs.List.Sorted.{IsNonDecreasingBy}
use Rattle.std.proofs.lemmas.Bool.{cases_lt, and_parts, and_from, and_left, and_right, ltb-true, leb-true, lt-ltb, le-ltb, le-leb, lt-leb}
use Rattle.std.proofs.lemmas.List.{drop_all, drop-drop, length-drop}
use Rattle.seh_views.specs.declared.c_types.SehRange.{SehRange}
use Rattle.seh_num.specs.Answers.{◌>>=◌, unless}
use Rattle.seh_views.specs.declared.refusal.Refusal.TheVariants as refusals
use Rattle.seh_views.specs.Ranges.{AreInOrder, in_order, holds, range_or, range_at, held_from, held, is_placed, ranges_checked}

-- ---- each range at or above the end of the one before, and within the addresses

pub record IsPlaced (end : ℕ) (r : SehRange) : Type 0 where
  pub above : end ≤ r.at
  pub within : r.at + length r.bytes.now ≤ 2 ^ 64

abbrev pub ArePlaced : ℕ → List SehRange → Type 0
ArePlaced end [] = Unit {0}
ArePlaced end (r ∷ rs) = IsPlaced end r × ArePlaced (r.at + length r.bytes.now) rs

pub are_placed : (end : ℕ) (rs : List SehRange) → in_order end rs ≡ true → ArePlaced end rs
are_placed end [] h = tt
are_placed end (r ∷ rs) h =
    let p = and_parts (is_placed end r) (in_order (r.at + length r.bytes.now) rs) h in
    let q = and_parts (leb end r.at) (leb (r.at + length r.bytes.now) (2 ^ 64)) p.0 in (
      record { above = leb-true _ _ q.0; within = leb-true _ _ q.1 },
      are_placed (r.at + length r.bytes.now) rs p.1,
    )

-- ---- the last that begins at or below an address

lies_above : (end : ℕ) (rs : List SehRange) (k : ℕ) (d : SehRange) → ArePlaced end rs
    → k < length rs → end ≤ (get_or rs k d).at
lies_above end [] k d up lt = absurd (omega arith)
lies_above end (s ∷ rs) zero d up lt = up.0.above
lies_above end (s ∷ rs) (suc k) d up lt =
    let above = lies_above (s.at + length s.bytes.now) rs k d up.1 (omega arith) in
    omega (arith, up.0.above)

pub addresses_rise : (end : ℕ) (rs : List SehRange) → ArePlaced end rs
    → IsNonDecreasingBy (λ s. s.at) rs
addresses_rise end [] up i j d le lt = absurd (omega arith)
addresses_rise end (s ∷ rs) up zero zero d le lt = omega arith
addresses_rise end (s ∷ rs) up zero (suc j) d le lt =
    let above = lies_above (s.at + length s.bytes.now) rs j d up.1 (omega arith) in omega arith
addresses_rise end (s ∷ rs) up (suc i) zero d le lt = absurd (omega arith)
addresses_rise end (s ∷ rs) up (suc i) (suc j) d le lt =
    addresses_rise (s.at + length s.bytes.now) rs up.1 i j d (omega arith) (omega arith)

below_holds_none : (a : ℕ) (s : SehRange) → a < s.at → holds a s ≡ false
below_holds_none a s lt = and_left (leb s.at a) (ltb a (s.at + length s.bytes.now))
    (lt-leb s.at a lt)

pub above_holds_none : (a : ℕ) (s : SehRange) → s.at + length s.bytes.now ≤ a
    → holds a s ≡ false
above_holds_none a s le = and_right (leb s.at a) (ltb a (s.at + length s.bytes.now))
    (le-ltb a (s.at + length s.bytes.now) le)

pub none_above : (a : ℕ) (rs : List SehRange)
    → ((k : ℕ) (d : SehRange) → k < length rs → a < (get_or rs k d).at)
    → range_at a rs ≡ None
none_above a [] above = refl
none_above a (s ∷ rs) above =
    ap (range_or (range_at a rs) s) (below_holds_none a s (above 0 s (omega arith)))
    ∙ none_above a rs (λ k d lt. above (suc k) d (omega arith))

pub last_below : (a end : ℕ) (rs : List SehRange) (k : ℕ) (d : SehRange) → ArePlaced end rs
    → k < length rs → (get_or rs k d).at ≤ a
    → ((j : ℕ) (e : SehRange) → k < j → j < length rs → a < (get_or rs j e).at)
    → held_from a (range_at a rs) ≡ drop (a - (get_or rs k d).at) (get_or rs k d).bytes.now
last_below a end [] k d up lt le above = absurd (omega arith)
last_below a end (s ∷ rs) zero d up lt le above =
    let others : range_at a rs ≡ None = none_above a rs
    (λ j e h. above (suc j) e (omega arith) (omega arith)) in
    ap (λ o. held_from a (range_or o s (holds a s))) others
    ∙ (elim (cases_lt a (s.at + length s.bytes.now)) as
    (λ _. held_from a (range_or None s (holds a s)) ≡ drop (a - s.at) s.bytes.now) [
      | inl inside ↦ ap (λ b. held_from a (range_or None s b))
          (and_from (leb s.at a) (ltb a (s.at + length s.bytes.now))
          (le-leb s.at a le)
          (lt-ltb a (s.at + length s.bytes.now) inside))
      | inr past ↦ ap (λ b. held_from a (range_or None s b)) (above_holds_none a s past)
          ∙ sym (drop_all (a - s.at) s.bytes.now (omega arith))
    ])
last_below a end (s ∷ rs) (suc k) d up lt le above =
    let later = lies_above (s.at + length s.bytes.now) rs k d up.1 (omega arith) in
    ap (λ b. held_from a (range_or (range_at a rs) s b))
    (above_holds_none a s (omega arith))
    ∙ last_below a (s.at + length s.bytes.now) rs k d up.1 (omega arith) le
    (λ j e h1 h2. above (suc j) e (omega arith) (omega arith))

-- the same by how many begin at or below it
pub begun_last : (a n : ℕ) (rs : List SehRange) (d : SehRange) → ArePlaced 0 rs → n ≤ length rs
    → n ≢ 0 → ((k : ℕ) (e : SehRange) → k < n → (get_or rs k e).at ≤ a)
    → ((k : ℕ) (e : SehRange) → n ≤ k → k < length rs → a < (get_or rs k e).at)
    → drop (a - (get_or rs (n - 1) d).at) (get_or rs (n - 1) d).bytes.now
    ≡ held_from a (range_at a rs)
begun_last a n rs d up within some is later =
    sym (last_below a 0 rs (n - 1) d up (omega arith) (is (n - 1) d (omega arith))
    (λ j e h1 h2. later j e (omega arith) h2))

any_default : (rs : List SehRange) (k : ℕ) (d e : SehRange) → k < length rs
    → (get_or rs k d).at ≡ (get_or rs k e).at
any_default [] k d e lt = absurd (omega arith)
any_default (r ∷ rs) zero d e lt = refl
any_default (r ∷ rs) (suc k) d e lt = any_default rs k d e (omega arith)

-- where the next one begins
pub next_begins : (a n : ℕ) (rs : List SehRange) (e : SehRange) → ArePlaced 0 rs → n < length rs
    → ((k : ℕ) (d : SehRange) → k < n → (get_or rs k d).at ≤ a)
    → ((k : ℕ) (d : SehRange) → n ≤ k → k < length rs → a < (get_or rs k d).at)
    → (k : ℕ) (d : SehRange) → k < length rs
    → (get_or rs k d).at ≤ a ⊎ a + ((get_or rs n e).at - a) ≤ (get_or rs k d).at
next_begins a n rs e up lt begun later k d inside = elim (cases_lt k n) [
  | inl before ↦ inl (begun k d before)
  | inr after ↦ inr (let rises = addresses_rise 0 rs up n k d after inside in
      let above = later n e (omega arith) lt in
      let same = any_default rs n d e lt in
      omega arith)
]

-- ---- bytes after others

-- what a range does that holds an address
record Holds (end a : ℕ) (s : SehRange) : Type 0 where
  above : end ≤ s.at
  begun : s.at ≤ a
  within : a < s.at + length s.bytes.now
  inside : s.at + length s.bytes.now ≤ 2 ^ 64

stores : (end a : ℕ) (s : SehRange) → IsPlaced end s → holds a s ≡ true → Holds end a s
stores end a s placed e =
    let p = and_parts (leb s.at a) (ltb a (s.at + length s.bytes.now)) e in
    record {
      above = placed.above;
      begun = leb-true _ _ p.0;
      within = ltb-true _ _ p.1;
      inside = placed.within;
    }

storing : (end a : ℕ) (rs : List SehRange) (s : SehRange) → ArePlaced end rs
    → range_at a rs ≡ Some s → Holds end a s
storing end a [] s up e = cc
storing end a (t ∷ rs) s up e = by_case (storing (t.at + length t.bytes.now) a rs s up.1)
    (holds a t) refl e
  where
    by_case : (range_at a rs ≡ Some s → Holds (t.at + length t.bytes.now) a s) → (b : Bool)
        → holds a t ≡ b → range_or (range_at a rs) t b ≡ Some s → Holds end a s
    by_case others true is found = let same : t ≡ s = cc in
        subst (Holds end a) same (stores end a t up.0 is)
    by_case others false is found = let later = others found in
        record {
          above = omega (arith, up.0.above, later.above);
          begun = later.begun;
          within = later.within;
          inside = later.inside;
        }

-- an address in the range of another is held by this range too
range_stays : (end a at : ℕ) (rs : List SehRange) (s : SehRange) → ArePlaced end rs
    → range_at a rs ≡ Some s → s.at ≤ at → at < s.at + length s.bytes.now
    → range_at at rs ≡ Some s
range_stays end a at [] s up e le lt = cc
range_stays end a at (t ∷ rs) s up e le lt = by_case
    (λ found. range_stays (t.at + length t.bytes.now) a at rs s up.1 found le lt) (holds a t)
    refl e
  where
    by_case : (range_at a rs ≡ Some s → range_at at rs ≡ Some s) → (b : Bool)
        → holds a t ≡ b → range_or (range_at a rs) t b ≡ Some s
        → range_or (range_at at rs) t (holds at t) ≡ Some s
    by_case others true is found =
        let same : s ≡ t = cc in
        let le' : t.at ≤ at = subst (λ (u : SehRange). u.at ≤ at) same le in
        let lt' : at < t.at + length t.bytes.now = subst
        (λ (u : SehRange). at < u.at + length u.bytes.now) same lt in
        ap (range_or (range_at at rs) t) (and_from (leb t.at at)
        (ltb at (t.at + length t.bytes.now)) (le-leb t.at at le')
        (lt-ltb at (t.at + length t.bytes.now) lt'))
        ∙ ap (λ (u : SehRange). Some u) (sym same)
    by_case others false is found =
        let later = storing (t.at + length t.bytes.now) a rs s up.1 found in
        ap (range_or (range_at at rs) t) (above_holds_none at t
        (omega (arith, later.above)))
        ∙ others found

-- the bytes after some that a range holds are held there
pub held_after : (a n : ℕ) (rs : List SehRange) → ArePlaced 0 rs
    → n < length (held_from a (range_at a rs))
    → held_from (a + n) (range_at (a + n) rs) ≡ drop n (held_from a (range_at a rs))
held_after a n rs up lt = by_case (range_at a rs) refl lt
  where
    by_case : (o : Option SehRange) → range_at a rs ≡ o → n < length (held_from a o)
        → held_from (a + n) (range_at (a + n) rs) ≡ drop n (held_from a o)
    by_case None is lt = absurd (omega arith)
    by_case (Some s) is lt =
        let here = storing 0 a rs s up is in
        let begun : s.at ≤ a = here.begun in
        let within : a - s.at + n < length s.bytes.now = omega
        (arith, length-drop (a - s.at) s.bytes.now) in
        let there : a + n - s.at ≡ a - s.at + n = omega arith in
        ap (held_from (a + n)) (range_stays 0 a (a + n) rs s up is (omega arith)
        (omega arith))
        ∙ ap (λ k. drop k s.bytes.now) there
        ∙ sym (drop-drop n (a - s.at) s.bytes.now)

-- they end within the addresses
pub held_inside : (a : ℕ) (rs : List SehRange) → ArePlaced 0 rs → 0 < length (held a rs)
    → a + length (held a rs) ≤ 2 ^ 64
held_inside a rs up lt = by_case (range_at a rs) refl lt
  where
    by_case : (o : Option SehRange) → range_at a rs ≡ o → 0 < length (held_from a o)
        → a + length (held_from a o) ≤ 2 ^ 64
    by_case None is lt = absurd (omega arith)
    by_case (Some s) is lt =
        let here = storing 0 a rs s up is in
        let begun : s.at ≤ a = here.begun in
        let within : a < s.at + length s.bytes.now = here.within in
        let inside : s.at + length s.bytes.now ≤ 2 ^ 64 = here.inside in
        omega (arith, length-drop (a - s.at) s.bytes.now)

-- where none holds an address, none holds one before the next range begins
pub none_until : (end a i : ℕ) (rs : List SehRange) → ArePlaced end rs → length (held a rs) ≡ 0
    → ((k : ℕ) (d : SehRange) → k < length rs
    → (get_or rs k d).at ≤ a ⊎ a + i < (get_or rs k d).at)
    → length (held (a + i) rs) ≡ 0
none_until end a i [] up none next = refl
none_until end a i (s ∷ rs) up none next = by_case
    (λ h. none_until (s.at + length s.bytes.now) a i rs up.1 h
    (λ k d lt. next (suc k) d (omega arith))) (holds a s) refl none
  where
    outside : holds a s ≡ false → holds (a + i) s ≡ false
    outside e = elim (next 0 s (omega arith)) [
      | inl below ↦ elim (cases_lt a (s.at + length s.bytes.now)) [
        | inl inside ↦ absurd (never (sym (and_from (leb s.at a)
            (ltb a (s.at + length s.bytes.now)) (le-leb s.at a below)
            (lt-ltb a (s.at + length s.bytes.now) inside)) ∙ e))
        | inr past ↦ above_holds_none (a + i) s (omega arith)
      ]
      | inr above ↦ below_holds_none (a + i) s above
    ]
      where
        never : true ≡ false → ⊥
        never h = absurd cc

    by_case : (length (held a rs) ≡ 0 → length (held (a + i) rs) ≡ 0) → (b : Bool)
        → holds a s ≡ b → length (held_from a (range_or (range_at a rs) s b)) ≡ 0
        → length (held_from (a + i) (range_or (range_at (a + i) rs) s (holds (a + i) s))) ≡ 0
    by_case others true e h =
        let p = and_parts (leb s.at a) (ltb a (s.at + length s.bytes.now)) e in
        let begun = leb-true _ _ p.0 in
        let within = ltb-true _ _ p.1 in
        absurd (omega (arith, length-drop (a - s.at) s.bytes.now))
    by_case others false e h =
        ap (λ b. length (held_from (a + i) (range_or (range_at (a + i) rs) s b))) (outside e)
        ∙ others h

-- ---- what the check of ranges says

-- ranges that pass are in order
in_order_from : (index end : ℕ) (rs : List SehRange) → ranges_checked index end rs ≡ Ok tt
    → in_order end rs ≡ true
in_order_from index end [] h = refl
in_order_from index end (r ∷ rs) h =
    go (λ f. in_order_from (index + 1) (r.at + length r.bytes.now) rs f) (is_placed end r) h
  where
    go : (ranges_checked (index + 1) (r.at + length r.bytes.now) rs ≡ Ok tt
        → in_order (r.at + length r.bytes.now) rs ≡ true) → (b : Bool)
        → (unless b (refusals.Range index)
        >>= λ _. ranges_checked (index + 1) (r.at + length r.bytes.now) rs) ≡ Ok tt
        → (b && in_order (r.at + length r.bytes.now) rs) ≡ true
    go others true f = others f
    go others false f = absurd cc

pub are_in_order : (rs : List SehRange) → ranges_checked 0 0 rs ≡ Ok tt → AreInOrder rs
are_in_order rs h = in_order_from 0 0 rs h

pub checked_over : (index end : ℕ) (rs : List SehRange) → length rs ≤ index
    → ranges_checked index end (drop index rs) ≡ Ok tt
checked_over index end rs le = ap (ranges_checked index end) (drop_all index rs le)
