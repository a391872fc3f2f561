-- Decoding from an address on goes on past its first instruction.
use Rattle.std.proofs.Common.{◌≡◌, ℕ, zero, suc, ◌+◌, ◌-◌, ◌<◌, ◌≤◌, Bool, true, false, ◌&&◌, eqb, ltb, leb, List, [], ◌∷◌, ◌++◌, take, Option, Some, None, refl, sym, ap, ◌∙◌, arith, append_assoc, append-nil}
use Rattle.std.proofs.lemmas.Bool.{and_parts, and_from, lt-ltb, le-leb, eq-eqb, ltb-true, leb-true, eqb-true}
use Rattle.flat_memory.specs.Memory.{Memory}
use Rattle.virtual_unwind.specs.Tail.{FetchedInstr, fetched_at}
use Rattle.unwind_tails.specs.Instructions.{Decoded, with_item, if_inside, from_item, or_end, decoded, between}
use Rattle.unwind_tails.specs.Instructions.{HasFirst, HasNone}

-- after these
abbrev pub onto : List FetchedInstr → Decoded → Decoded
onto xs d = record { items = xs ++ d.items; is_whole = d.is_whole }

module _ (m : Memory) (to : ℕ) where
  -- as many as there are bytes are enough
  pub enough : (n k at : ℕ) → at ≤ to → to ≤ at + n → to ≤ at + k
      → decoded n m at to ≡ decoded k m at to
  unfolding decoded
  enough zero zero at le a b = refl
  enough zero (suc k) at le a b =
      let e : at ≡ to = omega arith in
      ap (λ t. let d : Decoded = record { items = []; is_whole = t } in d) (eq-eqb at to e)
      ∙ sym (ap (or_end (from_item (λ j. decoded k m j to) at to (fetched_at m at)))
      (eq-eqb at to e))
  enough (suc n) zero at le a b =
      let e : at ≡ to = omega arith in
      ap (or_end (from_item (λ j. decoded n m j to) at to (fetched_at m at))) (eq-eqb at to e)
      ∙ sym (ap (λ t. let d : Decoded = record { items = []; is_whole = t } in d) (eq-eqb at to e))
  enough (suc n) (suc k) at le a b = by_end (λ j g s r. enough n k j g s r) (eqb at to)
    where
      inside : ((j : ℕ) → j ≤ to → to ≤ j + n → to ≤ j + k → decoded n m j to ≡ decoded k m j to)
          → (x : FetchedInstr) (t : Bool) → (ltb 0 x.size && leb (at + x.size) to) ≡ t
          → if_inside (λ j. decoded n m j to) at x t ≡ if_inside (λ j. decoded k m j to) at x t
      inside more x false e = refl
      inside more x true e =
          let p = and_parts (ltb 0 x.size) (leb (at + x.size) to) e in
          let pos = ltb-true 0 x.size p.0 in
          ap (with_item x) (more (at + x.size) (leb-true (at + x.size) to p.1) (omega arith)
          (omega arith))

      by_item : ((j : ℕ) → j ≤ to → to ≤ j + n → to ≤ j + k → decoded n m j to ≡ decoded k m j to)
          → (o : Option FetchedInstr) → from_item (λ j. decoded n m j to) at to o
          ≡ from_item (λ j. decoded k m j to) at to o
      by_item more None = refl
      by_item more (Some x) = inside more x (ltb 0 x.size && leb (at + x.size) to) refl

      by_end : ((j : ℕ) → j ≤ to → to ≤ j + n → to ≤ j + k → decoded n m j to ≡ decoded k m j to)
          → (t : Bool) → or_end (from_item (λ j. decoded n m j to) at to (fetched_at m at)) t
          ≡ or_end (from_item (λ j. decoded k m j to) at to (fetched_at m at)) t
      by_end more true = refl
      by_end more false = by_item more (fetched_at m at)

  -- before the end
  first_of : (n at : ℕ) → at < to → n ≡ to - at → (o : Option FetchedInstr) → fetched_at m at ≡ o
      → (d : Decoded) → ((j : ℕ) → n ≡ j + 1 → from_item (λ k. decoded j m k to) at to o ≡ d)
      → decoded n m at to ≡ d
  unfolding decoded
  first_of zero at lt e o f d h = absurd (omega arith)
  first_of (suc j) at lt e o f d h =
      ap (or_end (from_item (λ k. decoded j m k to) at to (fetched_at m at))) (neq at to
      (omega arith))
      ∙ ap (from_item (λ k. decoded j m k to) at to) f ∙ h j (omega arith)
    where
      neq : (a b : ℕ) → a < b → eqb a b ≡ false
      neq a b lt = go (eqb a b) refl
        where
          go : (t : Bool) → eqb a b ≡ t → t ≡ false
          go true e = let z = eqb-true a b e in absurd (omega arith)
          go false e = refl

  pub none_there : (at : ℕ) → at < to → fetched_at m at ≡ None
      → between m at to ≡ record { items = []; is_whole = false }
  none_there at lt f = first_of (to - at) at lt refl None f _ (λ j e. refl)

  pub passes : (at : ℕ) (x : FetchedInstr) → at < to → fetched_at m at ≡ Some x
      → (ltb 0 x.size && leb (at + x.size) to) ≡ false
      → between m at to ≡ record { items = []; is_whole = false }
  passes at x lt f t = first_of (to - at) at lt refl (Some x) f _
      (λ j e. ap (if_inside (λ k. decoded j m k to) at x) t)

  none_of : (b : Bool) → (b ≡ true → ⊥) → b ≡ false
  none_of true h = absurd (h refl)
  none_of false h = refl

  pub no_size : (at : ℕ) (x : FetchedInstr) → at < to → fetched_at m at ≡ Some x → x.size ≡ 0
      → between m at to ≡ record { items = []; is_whole = false }
  no_size at x lt f z = passes at x lt f (none_of (ltb 0 x.size && leb (at + x.size) to)
      (λ t. let p = ltb-true 0 x.size (and_parts (ltb 0 x.size) (leb (at + x.size) to) t).0 in
      omega arith))

  pub too_long : (at : ℕ) (x : FetchedInstr) → at < to → fetched_at m at ≡ Some x
      → to < at + x.size → between m at to ≡ record { items = []; is_whole = false }
  too_long at x lt f z = passes at x lt f (none_of (ltb 0 x.size && leb (at + x.size) to)
      (λ t. let p = leb-true (at + x.size) to (and_parts (ltb 0 x.size) (leb
      (at + x.size) to) t).1 in
      omega arith))

  pub goes_on : (at : ℕ) (x : FetchedInstr) → at < to → fetched_at m at ≡ Some x → 0 < x.size
      → at + x.size ≤ to → between m at to ≡ with_item x (between m (at + x.size) to)
  goes_on at x lt f pos le = first_of (to - at) at lt refl (Some x) f _ (λ j e.
      ap (if_inside (λ k. decoded j m k to) at x) (and_from (ltb 0 x.size) (leb (at + x.size) to)
      (lt-ltb 0 x.size pos) (le-leb (at + x.size) to le))
      ∙ ap (with_item x) (enough j (to - (at + x.size)) (at + x.size) le (omega arith)
      (omega arith)))

  ended : (n : ℕ) → n ≡ 0 → decoded n m to to ≡ record { items = []; is_whole = true }
  unfolding decoded
  ended zero e = ap (λ t. let d : Decoded = record { items = []; is_whole = t } in d)
      (eq-eqb to to refl)
  ended (suc n) e = absurd (omega arith)

  pub at_end : (at : ℕ) → at ≡ to → between m at to ≡ record { items = []; is_whole = true }
  at_end at e = ap (λ k. decoded (to - k) m k to) e ∙ ended (to - to) (omega arith)

-- ---- the first of them

module _ (m : Memory) (to at : ℕ) where
  -- where nothing is left
  pub none_left : at ≡ to → HasNone m at to
  none_left e = record {
    none = ap (λ (d : Decoded). d.items) (at_end m to at e);
    missing = λ lt. absurd (omega arith);
  }

  stopped_by : between m at to ≡ record { items = []; is_whole = false } → HasNone m at to
  stopped_by e = record {
    none = ap (λ (d : Decoded). d.items) e;
    missing = λ lt. ap (λ (d : Decoded). d.is_whole) e;
  }

  pub none_known : at < to → fetched_at m at ≡ None → HasNone m at to
  none_known lt f = stopped_by (none_there m to at lt f)

  pub none_sized : (x : FetchedInstr) → at < to → fetched_at m at ≡ Some x → x.size ≡ 0
      → HasNone m at to
  none_sized x lt f z = stopped_by (no_size m to at x lt f z)

  pub none_fits : (x : FetchedInstr) → at < to → fetched_at m at ≡ Some x → to < at + x.size
      → HasNone m at to
  none_fits x lt f z = stopped_by (too_long m to at x lt f z)

  pub first_known : (x : FetchedInstr) → at < to → fetched_at m at ≡ Some x → 0 < x.size
      → at + x.size ≤ to → HasFirst m at to x
  first_known x lt f pos le = record {
    there = f;
    sized = pos;
    inside = le;
    others = goes_on m to at x lt f pos le;
  }

  same_decoded : (d : Decoded) → d.items ≡ [] → d.is_whole ≡ false
      → d ≡ record { items = []; is_whole = false }
  same_decoded d a b =
      ap (λ (xs : List FetchedInstr). let e : Decoded = record { items = xs; is_whole = d.is_whole }
      in e) a
      ∙ ap (λ t. let e : Decoded = record { items = []; is_whole = t } in e) b

  -- where none is left before the end
  pub none_more : at < to → HasNone m at to
      → between m at to ≡ record { items = []; is_whole = false }
  none_more lt h = same_decoded (between m at to) h.none (h.missing lt)

  pub first_items : (x : FetchedInstr) → HasFirst m at to x
      → (between m at to).items ≡ x ∷ (between m (at + x.size) to).items
  first_items x h = ap (λ (d : Decoded). d.items) h.others

pub onto_one : (xs : List FetchedInstr) (x : FetchedInstr) (d : Decoded)
    → onto (xs ++ (x ∷ [])) d ≡ onto xs (with_item x d)
onto_one xs x d =
    ap (λ (ys : List FetchedInstr). let p : Decoded = record { items = ys; is_whole = d.is_whole }
    in p)
    (append_assoc xs (x ∷ []) d.items)

pub onto_none : (xs : List FetchedInstr) (t : Bool)
    → onto xs (record { items = []; is_whole = t }) ≡ record { items = xs; is_whole = t }
onto_none xs t = ap (λ (ys : List FetchedInstr). let p : Decoded = record {
  items = ys;
  is_whole =
      t;
}
    in p) (append-nil xs)

-- ---- the first n of them, after others

module _ (done : List FetchedInstr) where
  pub taken_none : (n : ℕ) (xs : List FetchedInstr) → xs ≡ [] → done ≡ done ++ take n xs
  taken_none zero xs e = sym (append-nil done)
  taken_none (suc n) xs e = sym (append-nil done)
      ∙ ap (λ (ys : List FetchedInstr). done ++ take (suc n) ys) (sym e)

  pub taken_all : (n : ℕ) (xs : List FetchedInstr) → n ≡ 0 → done ≡ done ++ take n xs
  taken_all zero xs e = sym (append-nil done)
  taken_all (suc n) xs e = absurd (omega arith)

  pub taken_more : (x : FetchedInstr) (xs ys : List FetchedInstr) (n k : ℕ) → ys ≡ x ∷ xs
      → n ≡ k + 1 → (done ++ (x ∷ [])) ++ take k xs ≡ done ++ take n ys
  taken_more x xs ys n k e le =
      append_assoc done (x ∷ []) (take k xs)
      ∙ ap (λ j. done ++ take j (x ∷ xs)) (let z : suc k ≡ n = omega arith in z)
      ∙ ap (λ (zs : List FetchedInstr). done ++ take n zs) (sym e)
