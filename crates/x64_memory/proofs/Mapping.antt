-- Regions mapped one after another, and bytes put piece by piece.
use Rattle.std.proofs.Common.{◌≡◌, ◌≢◌, ℕ, zero, suc, ◌+◌, ◌-◌, ◌*◌, ◌/◌, ◌%◌, ◌<◌, ◌≤◌, Bool, true, false, cond, eqb, ◌||◌, List, [], ◌++◌, length, take, get_or, Option, Some, is_some, refl, sym, ap, ◌∙◌, arith, inl, inr, eq-eqb, replicate, subst, ◌∷◌, length-append}
use Rattle.std.proofs.lemmas.Bool.{cases_eq, cases_lt, ne_eqb, lt-ltb, le-ltb, le-leb, lt-leb}
use Rattle.std.proofs.lemmas.List.{length-replicate, get_or-append-add, get_or_append_left, get_or-take, get_or-drop, length-take-le}
use borrow.Rule.Slice.PartMut.{put_mid, post_of}
use Rattle.std.proofs.lemmas.Slice.{drop-put_mid}
use Rattle.x64_memory.specs.Words.{Protection, Memory, Page, Region, Stretch, has_number, index_of, page_at, page_numbered, AreOrdered, count_from, end_from, page_mode, page_byte, paged, has_page, HasArena, zero_page, IsWholeRegion, region_mode, covers, with_region, unmapped, in_regions, HoldsArena, filled}
use Rattle.x64_memory.proofs.Ordered.{within, before, past, page_added, ordered_more, count_more, end_more}
use Rattle.x64_memory.proofs.Paging.{page_changed}

-- ---- a region over others

covered : (r : Region) (a : ℕ) → r.start ≤ a → a < r.end → covers r a ≡ true
covered r a le lt = rw (le-leb r.start a le, lt-ltb a r.end lt) refl

below : (r : Region) (a : ℕ) → a < r.start → covers r a ≡ false
below r a lt = rw (lt-leb r.start a lt) refl

outside : (r : Region) (a : ℕ) → r.end ≤ a → covers r a ≡ false
outside r a ge = elim (cases_lt a r.start) [
  | inl lt ↦ below r a lt
  | inr le ↦ rw
      (le-leb r.start a le, le-ltb a r.end ge) refl
]

zeros : (n i : ℕ) → get_or (replicate {A = ℕ} n 0) i 0 ≡ 0
zeros zero i = refl
zeros (suc n) zero = refl
zeros (suc n) (suc i) = zeros n i

mode_either : (b : Bool) (z : Page) (o : Option Page)
    → page_mode (cond b (Some z) o) ≡ cond b z.protection (page_mode o)
mode_either true z o = refl
mode_either false z o = refl

byte_either : (b : Bool) (z : Page) (o : Option Page) (i : ℕ)
    → page_byte (cond b (Some z) o) i ≡ cond b (get_or z.bytes i 0) (page_byte o i)
byte_either true z o i = refl
byte_either false z o i = refl

has_either : (b : Bool) (z : Page) (o : Option Page)
    → is_some (cond b (Some z) o) ≡ (b || is_some o)
has_either true z o = refl
has_either false z o = refl

module _ (r : Region) (s : Stretch) (start : r.start % 4096 ≡ 0) (end : r.end % 4096 ≡ 0)
    (first_is : s.first ≡ r.start / 4096) (end_is : s.end ≡ r.end / 4096) where
  -- a stretch of a region's pages has the page of each address that the region covers
  pub has_covered : (a : ℕ) → has_number s (a / 4096) ≡ covers r a
  has_covered a = elim (cases_lt a r.start) [
    | inl lt ↦ before s (a / 4096) (omega arith) ∙ sym (below r a lt)
    | inr le ↦ elim (cases_lt a r.end) [
      | inl lt ↦ within s (a / 4096) (omega arith) (omega arith) ∙ sym (covered r a le lt)
      | inr ge ↦ past s (a / 4096) (omega arith) ∙ sym (outside r a ge)
    ]
  ]

  module _ (old new : ℕ → Option Page) (protection : Protection) (mode : protection ≡ region_mode r)
      (has : (k : ℕ) → new k ≡ cond (has_number s k) (Some (zero_page protection)) (old k)) where
    mode_over : (a : ℕ) → page_mode (new (a / 4096))
        ≡ cond (covers r a) (region_mode r) (page_mode (old (a / 4096)))
    mode_over a = ap page_mode (has (a / 4096))
        ∙ mode_either (has_number s (a / 4096)) (zero_page protection) (old (a / 4096))
        ∙ ap (λ b. cond b protection (page_mode (old (a / 4096)))) (has_covered a)
        ∙ ap (λ m. cond (covers r a) m (page_mode (old (a / 4096)))) mode

    byte_over : (a : ℕ) → page_byte (new (a / 4096)) (a % 4096)
        ≡ cond (covers r a) 0 (page_byte (old (a / 4096)) (a % 4096))
    byte_over a = ap (λ o. page_byte o (a % 4096)) (has (a / 4096))
        ∙ byte_either (has_number s (a / 4096)) (zero_page protection) (old (a / 4096)) (a % 4096)
        ∙ ap (λ b. cond b (get_or (zero_page protection).bytes (a % 4096) 0)
        (page_byte (old (a / 4096)) (a % 4096))) (has_covered a)
        ∙ ap (λ x. cond (covers r a) x (page_byte (old (a / 4096)) (a % 4096)))
        (zeros 4096 (a % 4096))

    pub region_over : paged new ≡ with_region (paged old) r
    unfolding paged
    region_over = λ i. record { protection = λ a. mode_over a i; byte = λ a. byte_over a i }

    pub holds_over : (a : ℕ) → has_page new a ≡ (covers r a || has_page old a)
    holds_over a = ap is_some (has (a / 4096))
        ∙ has_either (has_number s (a / 4096)) (zero_page protection) (old (a / 4096))
        ∙ ap (λ b. b || has_page old a) (has_covered a)

-- ---- all regions

pub empty_memory : (stretches : List Stretch) (pages : List Page) → stretches ≡ []
    → paged (page_numbered stretches pages) ≡ unmapped
unfolding paged
empty_memory stretches pages e = λ i. record {
  protection = λ a. page_mode
      (page_at pages (index_of (e i) (a / 4096)));
  byte = λ a. page_byte (page_at pages (index_of (e i) (a / 4096))) (a % 4096);
}

pub empty_holds : (stretches : List Stretch) (pages : List Page) (a : ℕ) → stretches ≡ []
    → has_page (page_numbered stretches pages) a ≡ false
empty_holds stretches pages a e = λ i. is_some (page_at pages (index_of (e i) (a / 4096)))

pub arena_mapped : (pages : ℕ → Option Page) (rs : List Region)
    → ((a : ℕ) → has_page pages a ≡ in_regions rs a) → HoldsArena rs → HasArena pages
arena_mapped pages rs h arena q low high =
    let e : 4096 * q / 4096 ≡ q = omega arith in
    ap (λ k. is_some (pages k)) (sym e) ∙ h (4096 * q)
    ∙ arena (4096 * q) (omega arith) (omega arith)

-- ---- bytes put

put_in : (m : Memory) (at : ℕ) (xs : List ℕ) (a : ℕ) → at ≤ a → a < at + length xs
    → (filled m at xs).byte a ≡ get_or xs (a - at) 0
put_in m at xs a le lt = rw (le-leb at a le, lt-ltb a (at + length xs) lt) refl

put_below : (m : Memory) (at : ℕ) (xs : List ℕ) (a : ℕ) → a < at
    → (filled m at xs).byte a ≡ m.byte a
put_below m at xs a lt = rw (lt-leb at a lt) refl

put_above : (m : Memory) (at : ℕ) (xs : List ℕ) (a : ℕ) → at + length xs ≤ a
    → (filled m at xs).byte a ≡ m.byte a
put_above m at xs a ge = rw (le-leb at a (omega arith), le-ltb a (at + length xs) ge) refl

module _ (m : Memory) (at : ℕ) (first others : List ℕ) where
  both : length (first ++ others) ≡ length first + length others
  both = length-append first others

  both_bytes : (a : ℕ) → (filled (filled m at first) (at + length first) others).byte a
      ≡ (filled m at (first ++ others)).byte a
  both_bytes a = elim (cases_lt a at) [
    | inl lt ↦ put_below (filled m at first) (at + length first) others a (omega arith)
        ∙ put_below m at first a lt ∙ sym (put_below m at (first ++ others) a lt)
    | inr le ↦ elim (cases_lt a (at + length first)) [
      | inl lt ↦ put_below (filled m at first) (at + length first) others a lt
          ∙ put_in m at first a le lt ∙ sym (get_or_append_left first others 0 (a - at)
          (omega arith))
          ∙ sym (put_in m at (first ++ others) a le (omega (arith, both)))
      | inr ge ↦ elim (cases_lt a (at + length first + length others)) [
        | inl lt ↦
            let place : a - at ≡ length first + (a - (at + length first)) = omega arith in
            put_in (filled m at first) (at + length first) others a ge lt
            ∙ sym (get_or-append-add first others (a - (at + length first)) 0)
            ∙ sym (ap (λ j. get_or (first ++ others) j 0) place)
            ∙ sym (put_in m at (first ++ others) a le (omega (arith, both)))
        | inr out ↦ put_above (filled m at first) (at + length first) others a out
            ∙ put_above m at first a ge ∙ sym
            (put_above m at (first ++ others) a (omega (arith, both)))
      ]
    ]
  ]

  pub filled_more : filled (filled m at first) (at + length first) others
      ≡ filled m at (first ++ others)
  filled_more = λ i. record { protection = m.protection; byte = λ a. both_bytes a i }

pub filled_none : (m : Memory) (at : ℕ) (xs : List ℕ) → length xs ≡ 0 → filled m at xs ≡ m
filled_none m at xs e = λ i. record { protection = m.protection; byte = λ a. none a i }
  where
    none : (a : ℕ) → (filled m at xs).byte a ≡ m.byte a
    none a = elim (cases_lt a at) [
      | inl lt ↦ put_below m at xs a lt
      | inr le ↦ put_above m at xs a
          (omega arith)
    ]

-- ---- bytes put into one page

module _ (pages : ℕ → Option Page) (p q : Page) (at : ℕ) (xs : List ℕ)
    (had : pages (at / 4096) ≡ Some p) (within : at % 4096 + length xs ≤ 4096)
    (protection : q.protection ≡ p.protection)
    (inside : (j : ℕ) → j < length xs → get_or q.bytes (at % 4096 + j) 0 ≡ get_or xs j 0)
    (before : (i : ℕ) → i < at % 4096 → get_or q.bytes i 0 ≡ get_or p.bytes i 0)
    (after : (i : ℕ) → at % 4096 + length xs ≤ i → get_or q.bytes i 0 ≡ get_or p.bytes i 0) where
  mode_had : (a : ℕ) → a / 4096 ≡ at / 4096 → (paged pages).protection a ≡ p.protection
  unfolding paged
  mode_had a e = ap page_mode (ap pages e ∙ had)

  byte_had : (a : ℕ) → a / 4096 ≡ at / 4096 → (paged pages).byte a ≡ get_or p.bytes (a % 4096) 0
  unfolding paged
  byte_had a e = ap (λ o. page_byte o (a % 4096)) (ap pages e ∙ had)

  in_page : (a : ℕ) → a / 4096 ≡ at / 4096 → get_or q.bytes (a % 4096) 0
      ≡ (filled (paged pages) at xs).byte a
  in_page a e = elim (cases_lt a at) [
    | inl lt ↦ before (a % 4096) (omega arith) ∙ sym (byte_had a e)
        ∙ sym (put_below (paged pages) at xs a lt)
    | inr le ↦ elim (cases_lt a (at + length xs)) [
      | inl lt ↦
          let place : a % 4096 ≡ at % 4096 + (a - at) = omega arith in
          ap (λ j. get_or q.bytes j 0) place ∙ inside (a - at) (omega arith)
          ∙ sym (put_in (paged pages) at xs a le lt)
      | inr ge ↦ after (a % 4096) (omega arith) ∙ sym (byte_had a e)
          ∙ sym (put_above (paged pages) at xs a ge)
    ]
  ]

  off_page : (a : ℕ) → a / 4096 ≢ at / 4096 → (paged pages).byte a
      ≡ (filled (paged pages) at xs).byte a
  off_page a n = elim (cases_lt a at) [
    | inl lt ↦ sym (put_below (paged pages) at xs a lt)
    | inr le ↦ sym (put_above (paged pages) at xs a (omega arith))
  ]

  each_byte : (a : ℕ) → cond (eqb (a / 4096) (at / 4096)) (get_or q.bytes (a % 4096) 0)
      ((paged pages).byte a) ≡ (filled (paged pages) at xs).byte a
  each_byte a = elim (cases_eq (a / 4096) (at / 4096)) [
    | inl e ↦ ap (λ b. cond b (get_or q.bytes (a % 4096) 0) ((paged pages).byte a))
        (eq-eqb (a / 4096) (at / 4096) e) ∙ in_page a e
    | inr n ↦ ap (λ b. cond b (get_or q.bytes (a % 4096) 0) ((paged pages).byte a))
        (ne_eqb (a / 4096) (at / 4096) n) ∙ off_page a n
  ]

  each_mode : (a : ℕ) → cond (eqb (a / 4096) (at / 4096)) q.protection ((paged pages).protection a)
      ≡ (paged pages).protection a
  each_mode a = elim (cases_eq (a / 4096) (at / 4096)) [
    | inl e ↦ ap (λ b. cond b q.protection ((paged pages).protection a))
        (eq-eqb (a / 4096) (at / 4096) e) ∙ protection ∙ sym (mode_had a e)
    | inr n ↦ ap (λ b. cond b q.protection ((paged pages).protection a))
        (ne_eqb (a / 4096) (at / 4096) n)
  ]

  pub bytes_put : (new : ℕ → Option Page) → ((k : ℕ)
      → new k ≡ cond (eqb k (at / 4096)) (Some q) (pages k))
      → paged new ≡ filled (paged pages) at xs
  bytes_put new has = page_changed pages new (at / 4096) q has
      ∙ (λ i. record { protection = λ a. each_mode a i; byte = λ a. each_byte a i })

-- ---- the bytes of a page with a piece put in

pub piece_inside : (xs ys : List ℕ) (from k j : ℕ) → from ≤ length xs → j < length ys
    → get_or (put_mid from k xs ys) (from + j) 0 ≡ get_or ys j 0
piece_inside xs ys from k j le lt =
    let here : from + j ≡ length (take from xs) + j = omega (arith, length-take-le from xs le) in
    ap (λ i. get_or (put_mid from k xs ys) i 0) here
    ∙ get_or-append-add (take from xs) (ys ++ post_of from k xs) j 0
    ∙ get_or_append_left ys (post_of from k xs) 0 j lt

pub piece_before : (xs ys : List ℕ) (from k i : ℕ) → i < from → from ≤ length xs
    → get_or (put_mid from k xs ys) i 0 ≡ get_or xs i 0
piece_before xs ys from k i lt le =
    get_or_append_left (take from xs) (ys ++ post_of from k xs) 0 i
    (omega (arith, length-take-le from xs le)) ∙ get_or-take from xs i 0 lt

pub piece_after : (xs ys : List ℕ) (from k i : ℕ) → from + k ≤ i → from ≤ length xs → length ys ≡ k
    → get_or (put_mid from k xs ys) i 0 ≡ get_or xs i 0
piece_after xs ys from k i ge le e =
    let here : i ≡ i + 0 = omega arith in
    ap (λ j. get_or (put_mid from k xs ys) j 0) here
    ∙ sym (get_or-drop i (put_mid from k xs ys) 0 0)
    ∙ ap (λ (zs : List ℕ). get_or zs 0 0) (drop-put_mid from k xs ys i ge le e)
    ∙ get_or-drop i xs 0 0 ∙ sym (ap (λ j. get_or xs j 0) here)

-- ---- a region put after others

module _ (r : Region) (s : Stretch) (ss ss' : List Stretch) (ps ps' : List Page)
    (protection : Protection) (whole : IsWholeRegion r) (ordered : AreOrdered 0 0 ss)
    (count : length ps ≡ count_from 0 ss) (above : 4096 * end_from 0 ss ≤ r.start)
    (first_is : s.first ≡ r.start / 4096) (end_is : s.end ≡ r.end / 4096)
    (kept : s.index ≡ length ps) (mode : protection ≡ region_mode r) (pushed : ss' ≡ ss ++ s ∷ [])
    (added : ps' ≡ ps ++ replicate (s.end - s.first) (zero_page protection)) where
  grows : s.first ≤ s.end
  grows = let order = whole.order in omega arith

  ends : end_from 0 ss ≤ s.first
  ends = omega arith

  page_after : (k : ℕ) → page_numbered ss' ps' k
      ≡ cond (has_number s k) (Some (zero_page protection)) (page_numbered ss ps k)
  page_after k = ap (λ xs. page_numbered xs ps' k) pushed
      ∙ ap (λ ys. page_numbered (ss ++ s ∷ []) ys k) added
      ∙ page_added s ss ps (zero_page protection) kept grows ordered (sym count) ends k

  memory_after : paged (page_numbered ss' ps') ≡ with_region (paged (page_numbered ss ps)) r
  memory_after = region_over r s whole.start whole.end first_is end_is (page_numbered ss ps)
      (page_numbered ss' ps') protection mode page_after

  holds_after : (a : ℕ) → has_page (page_numbered ss' ps') a
      ≡ (covers r a || has_page (page_numbered ss ps) a)
  holds_after = holds_over r s whole.start whole.end first_is end_is (page_numbered ss ps)
      (page_numbered ss' ps') protection mode page_after

  ordered_after : AreOrdered 0 0 ss'
  ordered_after = subst (AreOrdered 0 0) (sym pushed) (ordered_more s 0 0 ss ordered ends grows
      (kept ∙ count))

  count_after : length ps' ≡ count_from 0 ss'
  count_after =
      let old = length-append ps (replicate (s.end - s.first) (zero_page protection)) in
      let new = length-replicate (s.end - s.first) (zero_page protection) in
      let size : length ps' ≡ length ps + (s.end - s.first) = ap length added ∙ old
      ∙ ap (λ n. length ps + n) new in
      let counted : count_from 0 ss' ≡ count_from 0 ss
      + (s.end - s.first) = ap (count_from 0) pushed ∙ count_more s 0 ss in
      omega arith

  end_after : 4096 * end_from 0 ss' ≡ r.end
  end_after =
      let ended : end_from 0 ss' ≡ s.end = ap (end_from 0) pushed ∙ end_more s 0 ss in
      let e = whole.end in
      omega arith

  pub record IsMapped : Type 0 where
    pub memory : paged (page_numbered ss' ps') ≡ with_region (paged (page_numbered ss ps)) r
    pub holds : (a : ℕ) → has_page (page_numbered ss' ps') a
        ≡ (covers r a || has_page (page_numbered ss ps) a)
    pub ascending : AreOrdered 0 0 ss'
    pub counted : length ps' ≡ count_from 0 ss'
    pub end : 4096 * end_from 0 ss' ≡ r.end

  -- the pages are those of the memory with the region over what was there
  pub is_mapped : IsMapped
  is_mapped = record {
    memory = memory_after;
    holds = holds_after;
    ascending = ordered_after;
    counted = count_after;
    end = end_after;
  }
