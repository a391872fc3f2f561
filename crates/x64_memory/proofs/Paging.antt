-- One page of a map of pages changed, and what lies in one.
use Rattle.std.proofs.Common.{◌≡◌, ◌≢◌, ℕ, ◌+◌, ◌-◌, ◌/◌, ◌%◌, ◌^◌, ◌<◌, ◌≤◌, true, false, cond, eqb, List, [], length, drop, get_or, Option, Some, None, is_some, refl, sym, ap, ◌∙◌, arith, inl, inr, eq-eqb, subst, length-drop, suc, set, get_or-set_same, get_or-set_other, ◌⊎◌}
use Rattle.std.proofs.Math.Nat.{pow-suc, div-div-eq-div-mul}
use Rattle.std.proofs.lemmas.Bool.{cases_eq, cases_lt, ne_eqb, lt-ltb, le-ltb, le-leb, lt-leb}
use Rattle.std.proofs.lemmas.List.{get_or-drop}
use Rattle.x64_memory.specs.Words.{Protection, with_bytes, with_number, distance, may_write, with_rights, is_writable, Page, page_mode, page_byte, paged, page_with_number, IsRestOfPage, has_page, with_page}
use Rattle.flat_memory.specs.declared.protection.TheConstants.{UNMAPPED}
use Rattle.flat_memory.specs.declared.protection.Rights.{Rights}
use Rattle.x64_memory.proofs.Lemmas.{among, beyond, outside}

module _ (old new : ℕ → Option Page) (k : ℕ) (p : Page)
    (has : (q : ℕ) → new q ≡ cond (eqb q k) (Some p) (old q)) where
  at_page : (q : ℕ) → q ≡ k → new q ≡ Some p
  at_page q e = has q ∙ ap (λ b. cond b (Some p) (old q)) (eq-eqb q k e)

  off_page : (q : ℕ) → q ≢ k → new q ≡ old q
  off_page q n = has q ∙ ap (λ b. cond b (Some p) (old q)) (ne_eqb q k n)

  modes : (a : ℕ) → page_mode (new (a / 4096))
      ≡ cond (eqb (a / 4096) k) p.protection (page_mode (old (a / 4096)))
  modes a = elim (cases_eq (a / 4096) k) [
    | inl e ↦ ap page_mode (at_page (a / 4096) e)
        ∙ sym (ap (λ b. cond b p.protection (page_mode (old (a / 4096)))) (eq-eqb (a / 4096) k e))
    | inr n ↦ ap page_mode (off_page (a / 4096) n)
        ∙ sym (ap (λ b. cond b p.protection (page_mode (old (a / 4096)))) (ne_eqb (a / 4096) k n))
  ]

  bytes : (a : ℕ) → page_byte (new (a / 4096)) (a % 4096)
      ≡ cond (eqb (a / 4096) k) (get_or p.bytes (a % 4096) 0)
      (page_byte (old (a / 4096)) (a % 4096))
  bytes a = elim (cases_eq (a / 4096) k) [
    | inl e ↦ ap (λ o. page_byte o (a % 4096)) (at_page (a / 4096) e)
        ∙ sym (ap (λ b. cond b (get_or p.bytes (a % 4096) 0)
        (page_byte (old (a / 4096)) (a % 4096)))
        (eq-eqb (a / 4096) k e))
    | inr n ↦ ap (λ o. page_byte o (a % 4096)) (off_page (a / 4096) n)
        ∙ sym (ap (λ b. cond b (get_or p.bytes (a % 4096) 0)
        (page_byte (old (a / 4096)) (a % 4096)))
        (ne_eqb (a / 4096) k n))
  ]

  pub page_changed : paged new ≡ with_page (paged old) k p
  unfolding paged
  page_changed = λ i. record { protection = λ a. modes a i; byte = λ a. bytes a i }

  pub has_kept : (o : Page) → old k ≡ Some o → (a : ℕ) → has_page new a ≡ has_page old a
  has_kept o had a = elim (cases_eq (a / 4096) k) [
    | inl e ↦ ap is_some (at_page (a / 4096) e) ∙ sym (ap is_some (ap old e ∙ had))
    | inr n ↦ ap is_some (off_page (a / 4096) n)
  ]

-- ---- a number put into a page

pub put_inside : (bytes : List ℕ) (from n v i : ℕ) → from ≤ i → i < from + n
    → page_with_number bytes from n v i ≡ v / 256 ^ (i - from) % 256
put_inside bytes from n v i le lt = rw (le-leb from i le, lt-ltb i (from + n) lt) refl

pub put_before : (bytes : List ℕ) (from n v i : ℕ) → i < from
    → page_with_number bytes from n v i ≡ get_or bytes i 0
put_before bytes from n v i lt = rw (lt-leb from i lt) refl

pub put_after : (bytes : List ℕ) (from n v i : ℕ) → from + n ≤ i
    → page_with_number bytes from n v i ≡ get_or bytes i 0
put_after bytes from n v i le = rw (le-leb from i (omega arith), le-ltb i (from + n) le) refl

module _ (pages : ℕ → Option Page) (p q : Page) (n at v : ℕ) (had : pages (at / 4096) ≡ Some p)
    (lt : at < 2 ^ 64) (within : at % 4096 + n ≤ 4096)
    (put : (i : ℕ) → get_or q.bytes i 0 ≡ page_with_number p.bytes (at % 4096) n v i) where
  old_mode : (a : ℕ) → a / 4096 ≡ at / 4096 → (paged pages).protection a ≡ p.protection
  unfolding paged
  old_mode a e = ap page_mode (ap pages e ∙ had)

  old_byte : (a : ℕ) → a / 4096 ≡ at / 4096 → (paged pages).byte a ≡ get_or p.bytes (a % 4096) 0
  unfolding paged
  old_byte a e = ap (λ o. page_byte o (a % 4096)) (ap pages e ∙ had)

  below_limit : (a : ℕ) → a / 4096 ≡ at / 4096 → a < 2 ^ 64
  below_limit a e = omega arith

  -- the byte in the page before the place, in it, or after it
  in_page : (a : ℕ) → a / 4096 ≡ at / 4096 → get_or q.bytes (a % 4096) 0
      ≡ with_number (paged pages).byte n at v a
  in_page a e = elim (cases_lt (a % 4096) (at % 4096)) [
    | inl l ↦ put (a % 4096) ∙ put_before p.bytes (at % 4096) n v (a % 4096) l ∙ sym (old_byte a e)
        ∙ sym (beyond (paged pages).byte n at v a (below_limit a e) (omega arith))
    | inr g ↦ elim (cases_lt (a % 4096) (at % 4096 + n)) [
      | inl l ↦
          let d : a % 4096 - at % 4096 ≡ distance at a = omega arith in
          put (a % 4096) ∙ put_inside p.bytes (at % 4096) n v (a % 4096) g l
          ∙ ap (λ j. v / 256 ^ j % 256) d ∙ sym
          (among (paged pages).byte n at v a (below_limit a e) (omega arith))
      | inr h ↦ put (a % 4096) ∙ put_after p.bytes (at % 4096) n v (a % 4096) h ∙ sym (old_byte a e)
          ∙ sym (beyond (paged pages).byte n at v a (below_limit a e) (omega arith))
    ]
  ]

  off : (a : ℕ) → a / 4096 ≢ at / 4096 → (paged pages).byte a
      ≡ with_number (paged pages).byte n at v a
  off a ne = elim (cases_lt a (2 ^ 64)) [
    | inl l ↦ sym (beyond (paged pages).byte n at v a l (omega arith))
    | inr g ↦ sym (outside (paged pages).byte n at v a g)
  ]

  same_byte : (a : ℕ) → cond (eqb (a / 4096) (at / 4096)) (get_or q.bytes (a % 4096) 0)
      ((paged pages).byte a) ≡ with_number (paged pages).byte n at v a
  same_byte a = elim (cases_eq (a / 4096) (at / 4096)) [
    | inl e ↦ ap (λ b. cond b (get_or q.bytes (a % 4096) 0) ((paged pages).byte a))
        (eq-eqb (a / 4096) (at / 4096) e) ∙ in_page a e
    | inr ne ↦ ap (λ b. cond b (get_or q.bytes (a % 4096) 0) ((paged pages).byte a))
        (ne_eqb (a / 4096) (at / 4096) ne) ∙ off a ne
  ]

  same_mode : q.protection ≡ p.protection → (a : ℕ)
      → cond (eqb (a / 4096) (at / 4096)) q.protection ((paged pages).protection a)
      ≡ (paged pages).protection a
  same_mode m a = elim (cases_eq (a / 4096) (at / 4096)) [
    | inl e ↦ ap (λ b. cond b q.protection ((paged pages).protection a))
        (eq-eqb (a / 4096) (at / 4096) e) ∙ m ∙ sym (old_mode a e)
    | inr ne ↦ ap (λ b. cond b q.protection ((paged pages).protection a))
        (ne_eqb (a / 4096) (at / 4096) ne)
  ]

  pub number_put : q.protection ≡ p.protection → (new : ℕ → Option Page)
      → ((k : ℕ) → new k ≡ cond (eqb k (at / 4096)) (Some q) (pages k))
      → paged new ≡ with_bytes (paged pages) (with_number (paged pages).byte n at v)
  number_put m new has = page_changed pages new (at / 4096) q has
      ∙ (λ i. record { protection = λ a. same_mode m a i; byte = λ a. same_byte a i })

-- ---- stretches

pub stretch_none : (pages : ℕ → Option Page) (at : ℕ) → pages (at / 4096) ≡ None → at < 2 ^ 64
    → IsRestOfPage (paged pages) at UNMAPPED []
unfolding paged
stretch_none pages at e lt = record {
  mode_is = ap page_mode e;
  modes = λ i l. absurd (omega arith);
  bytes_are = λ i l. absurd (omega arith);
  inside = omega arith;
  small = λ i. omega arith;
  unmapped = λ _. refl;
}

module _ (pages : ℕ → Option Page) (at : ℕ) (p : Page) (had : pages (at / 4096) ≡ Some p)
    (lt : at < 2 ^ 64) (len : length p.bytes ≡ 4096) (fits : (i : ℕ) → get_or p.bytes i 0 < 256)
  where
    left : length (drop (at % 4096) p.bytes) ≡ 4096 - at % 4096
    left = length-drop (at % 4096) p.bytes ∙ ap (λ n. n - at % 4096) len

    same_page : (i : ℕ) → i < length (drop (at % 4096) p.bytes) → pages ((at + i) / 4096) ≡ Some p
    same_page i l = let e : (at + i) / 4096 ≡ at / 4096 = omega (arith, left) in ap pages e ∙ had

    same_place : (i : ℕ) → i < length (drop (at % 4096) p.bytes) → (at + i) % 4096 ≡ at % 4096 + i
    same_place i l = omega (arith, left)

    pub stretch_some : IsRestOfPage (paged pages) at p.protection (drop (at % 4096) p.bytes)
    unfolding paged
    stretch_some = record {
      mode_is = ap page_mode had;
      modes = λ i l. ap page_mode (same_page i l);
      bytes_are = λ i l. ap (λ o. page_byte o ((at + i) % 4096)) (same_page i l)
          ∙ ap (λ j. get_or p.bytes j 0) (same_place i l)
          ∙ sym (get_or-drop (at % 4096) p.bytes i 0);
      inside = omega (arith, left);
      small = λ i. subst (λ (b : ℕ). b < 256) (sym (get_or-drop (at % 4096) p.bytes i 0))
          (fits (at % 4096 + i));
      unmapped = λ z. absurd (omega (arith, left));
    }

-- ---- one byte of a number more

pub digit_later : (v i : ℕ) → v / 256 ^ i / 256 ≡ v / 256 ^ (i + 1)
digit_later v i = div-div-eq-div-mul v (256 ^ i) 256
    ∙ ap (λ x. v / x) (sym (let e : i + 1 ≡ suc i = omega arith in ap (λ k. 256 ^ k) e
    ∙ pow-suc 256 i))

pub put_step : (old bytes : List ℕ) (from i v rest : ℕ)
    → ((j : ℕ) → get_or bytes j 0 ≡ page_with_number old from i v j) → rest ≡ v / 256 ^ i
    → from + i < length bytes → (j : ℕ) → get_or (set bytes (from + i) (rest % 256)) j 0
    ≡ page_with_number old from (i + 1) v j
put_step old bytes from i v rest places digit lt j = elim (cases_eq j (from + i)) [
  | inl e ↦
      let d : i ≡ j - from = omega arith in
      ap (λ k. get_or (set bytes (from + i) (rest % 256)) k 0) e
      ∙ get_or-set_same bytes (from + i) (rest % 256) 0 lt ∙ ap (λ r. r % 256) digit
      ∙ ap (λ k. v / 256 ^ k % 256) d ∙ sym
      (put_inside old from (i + 1) v j (omega arith) (omega arith))
  | inr n ↦ get_or-set_other bytes (from + i) j (rest % 256) 0 n ∙ places j
      ∙ widened n (cases_lt j from)
]
  where
    later : j ≢ from + i → from ≤ j → (j < from + i) ⊎ (from + i ≤ j)
        → page_with_number old from i v j ≡ page_with_number old from (i + 1) v j
    later n g (inl l) = put_inside old from i v j g l
        ∙ sym (put_inside old from (i + 1) v j g (omega arith))
    later n g (inr h) = put_after old from i v j h
        ∙ sym (put_after old from (i + 1) v j (omega arith))

    widened : j ≢ from + i → (j < from) ⊎ (from ≤ j)
        → page_with_number old from i v j ≡ page_with_number old from (i + 1) v j
    widened n (inl l) = put_before old from i v j l ∙ sym (put_before old from (i + 1) v j l)
    widened n (inr g) = later n g (cases_lt j (from + i))

-- where no page is, nothing may be written
pub unmapped : (pages : ℕ → Option Page) (at : ℕ) → pages (at / 4096) ≡ None
    → may_write (paged pages) at ≡ true → ⊥
unfolding paged
unmapped pages at e h = let f : false ≡ true = sym (ap (λ o. is_writable (page_mode o).rights) e)
    ∙ h in cc

-- ---- the rights of a page set

module _ (pages : ℕ → Option Page) (p : Page) (at : ℕ) (r : Rights)
    (had : pages (at / 4096) ≡ Some p) where
  mode_there : (a : ℕ) → a / 4096 ≡ at / 4096 → (paged pages).protection a ≡ p.protection
  unfolding paged
  mode_there a e = ap page_mode (ap pages e ∙ had)

  byte_there : (a : ℕ) → a / 4096 ≡ at / 4096 → (paged pages).byte a ≡ get_or p.bytes (a % 4096) 0
  unfolding paged
  byte_there a e = ap (λ o. page_byte o (a % 4096)) (ap pages e ∙ had)

  mode_set : (a : ℕ) → cond (eqb (a / 4096) (at / 4096)) (record p.protection { rights = r })
      ((paged pages).protection a) ≡ cond (eqb (a / 4096) (at / 4096))
      (record ((paged pages).protection a) { rights = r }) ((paged pages).protection a)
  mode_set a = elim (cases_eq (a / 4096) (at / 4096)) [
    | inl e ↦ ap (λ (m : Protection). cond (eqb (a / 4096) (at / 4096)) (record m { rights = r })
        ((paged pages).protection a)) (sym (mode_there a e))
    | inr n ↦ ap (λ b. cond b (record p.protection { rights = r }) ((paged pages).protection a))
        (ne_eqb (a / 4096) (at / 4096) n) ∙ sym
        (ap (λ b. cond b (record ((paged pages).protection a) { rights = r })
        ((paged pages).protection a)) (ne_eqb (a / 4096) (at / 4096) n))
  ]

  byte_stays : (a : ℕ) → cond (eqb (a / 4096) (at / 4096)) (get_or p.bytes (a % 4096) 0)
      ((paged pages).byte a) ≡ (paged pages).byte a
  byte_stays a = elim (cases_eq (a / 4096) (at / 4096)) [
    | inl e ↦ ap (λ b. cond b (get_or p.bytes (a % 4096) 0) ((paged pages).byte a))
        (eq-eqb (a / 4096) (at / 4096) e) ∙ sym (byte_there a e)
    | inr n ↦ ap (λ b. cond b (get_or p.bytes (a % 4096) 0) ((paged pages).byte a))
        (ne_eqb (a / 4096) (at / 4096) n)
  ]

  pub rights_set : (new : ℕ → Option Page) → ((k : ℕ)
      → new k ≡ cond (eqb k (at / 4096)) (Some
      (record p { protection = record p.protection { rights = r } })) (pages k))
      → paged new ≡ with_rights (paged pages) at (Some r)
  rights_set new has = page_changed pages new (at / 4096)
      (record p { protection = record p.protection { rights = r } }) has
      ∙ (λ i. record { protection = λ a. mode_set a i; byte = λ a. byte_stays a i })
