-- Places that instructions reach one after another.
use Rattle.std.proofs.Common.{◌≡◌, ◌⊎◌, ℕ, ◌+◌, ◌<◌, ◌≤◌, List, [], ◌∷◌, ◌++◌, length, Some, refl, sym, ap, subst, ◌∙◌, arith, inl, inr}
use Rattle.flat_memory.specs.Memory.{Memory}
use Rattle.virtual_unwind.specs.Tail.{FetchedInstr, fetched_at}
use Rattle.frame_rules.specs.States.{HasItems}
use Rattle.frame_rules.proofs.Tails.{items_rise}

same_item : (x y : FetchedInstr) → Some x ≡ Some y → x ≡ y
same_item x y e = cc

-- one instruction stands at a place
pub one_there : (m : Memory) (at : ℕ) (x y : FetchedInstr) → fetched_at m at ≡ Some x
    → fetched_at m at ≡ Some y → x ≡ y
one_there m at x y h g = same_item x y (sym h ∙ g)

-- from a place up to one beyond another that is reached, these go through it
pub record Beyond (m : Memory) (middle to : ℕ) : Type 0 where
  pub left : List FetchedInstr
  pub items : HasItems m middle left to

pub beyond : (m : Memory) (at : ℕ) (xs : List FetchedInstr) (middle : ℕ) (ys : List FetchedInstr)
    (to : ℕ) → HasItems m at xs middle → HasItems m at ys to → middle ≤ to → Beyond m middle to
beyond m at [] middle ys to h g le =
    record { left = ys; items = subst (λ a. HasItems m a ys to) h g }
beyond m at (x ∷ xs) middle [] to h g le =
    let rise = items_rise m (at + x.size) xs middle h.2 in
    let pos = h.1 in
    let e : at ≡ to = g in
    absurd (omega (arith, rise, pos, e, le))
beyond m at (x ∷ xs) middle (y ∷ ys) to h g le =
    let same : y ≡ x = one_there m at y x g.0 h.0 in
    let rest = subst (λ (z : FetchedInstr). HasItems m (at + z.size) ys to) same g.2 in
    beyond m (at + x.size) xs middle ys to h.2 rest le

-- an instruction that stands at a place, and ends up to another
pub record StandsAt (m : Memory) (at to : ℕ) : Type 0 where
  pub item : FetchedInstr
  pub there : fetched_at m at ≡ Some item
  pub sized : 0 < item.size
  pub inside : at + item.size ≤ to

-- before the end of instructions one stands at each place that is reached
pub within : (m : Memory) (at : ℕ) (xs : List FetchedInstr) (to : ℕ) (ys : List FetchedInstr)
    (b : ℕ) → HasItems m at xs to → HasItems m at ys b → b < to → StandsAt m b to
within m at [] to ys b h g lt =
    let rise = items_rise m at ys b g in
    let e : at ≡ to = h in
    absurd (omega (arith, rise, e, lt))
within m at (x ∷ xs) to [] b h g lt =
    let e : at ≡ b = g in
    let rise = items_rise m (at + x.size) xs to h.2 in
    record {
      item = x;
      there = subst (λ k. fetched_at m k ≡ Some x) e h.0;
      sized = h.1;
      inside = omega (arith, rise, e);
    }
within m at (x ∷ xs) to (y ∷ ys) b h g lt =
    let same : y ≡ x = one_there m at y x g.0 h.0 in
    let rest = subst (λ (z : FetchedInstr). HasItems m (at + z.size) ys b) same g.2 in
    within m (at + x.size) xs to ys b h.2 rest lt

-- as many from one place reach one end
pub same_end : (m : Memory) (at : ℕ) (xs : List FetchedInstr) (to : ℕ) (ys : List FetchedInstr)
    (end : ℕ) → HasItems m at xs to → HasItems m at ys end → length xs ≡ length ys → to ≡ end
same_end m at [] to [] end h g n = sym h ∙ g
same_end m at [] to (y ∷ ys) end h g n = absurd (omega (arith, n))
same_end m at (x ∷ xs) to [] end h g n = absurd (omega (arith, n))
same_end m at (x ∷ xs) to (y ∷ ys) end h g n =
    let same : y ≡ x = one_there m at y x g.0 h.0 in
    let rest = subst (λ (z : FetchedInstr). HasItems m (at + z.size) ys end) same g.2 in
    same_end m (at + x.size) xs to ys end h.2 rest (omega (arith, n))

-- between two places there is one way
pub same_way : (m : Memory) (at : ℕ) (xs ys : List FetchedInstr) (to : ℕ) → HasItems m at xs to
    → HasItems m at ys to → xs ≡ ys
same_way m at [] [] to h g = refl
same_way m at [] (y ∷ ys) to h g =
    let rise = items_rise m (at + y.size) ys to g.2 in
    let pos = g.1 in
    let e : at ≡ to = h in
    absurd (omega (arith, rise, pos, e))
same_way m at (x ∷ xs) [] to h g =
    let rise = items_rise m (at + x.size) xs to h.2 in
    let pos = h.1 in
    let e : at ≡ to = g in
    absurd (omega (arith, rise, pos, e))
same_way m at (x ∷ xs) (y ∷ ys) to h g =
    let same : y ≡ x = one_there m at y x g.0 h.0 in
    let rest = subst (λ (z : FetchedInstr). HasItems m (at + z.size) ys to) same g.2 in
    ap (λ (zs : List FetchedInstr). x ∷ zs) (same_way m (at + x.size) xs ys to h.2 rest)
    ∙ ap (λ (z : FetchedInstr). z ∷ ys) (sym same)

-- no place inside an instruction is reached: one that is reached is up to its begin or from its end
-- on
pub not_inside : (m : Memory) (from : ℕ) (xs : List FetchedInstr) (at : ℕ) (x : FetchedInstr)
    (ys : List FetchedInstr) (b : ℕ) → HasItems m from xs at → fetched_at m at ≡ Some x
    → HasItems m from ys b → (b ≤ at) ⊎ (at + x.size ≤ b)
not_inside m from [] at x [] b h there g = inl (let e : from ≡ at = h in let f : from ≡ b = g in
    omega (arith, e, f))
not_inside m from [] at x (y ∷ ys) b h there g =
    let e : from ≡ at = h in
    let same : y ≡ x = one_there m from y x g.0 (subst (λ k. fetched_at m k
    ≡ Some x) (sym e) there) in
    let rest = subst (λ (z : FetchedInstr). HasItems m (from + z.size) ys b) same g.2 in
    let rise = items_rise m (from + x.size) ys b rest in
    inr (omega (arith, e, rise))
not_inside m from (w ∷ xs) at x [] b h there g =
    let rise = items_rise m (from + w.size) xs at h.2 in
    let f : from ≡ b = g in
    inl (omega (arith, f, rise))
not_inside m from (w ∷ xs) at x (y ∷ ys) b h there g =
    let same : y ≡ w = one_there m from y w g.0 h.0 in
    let rest = subst (λ (z : FetchedInstr). HasItems m (from + z.size) ys b) same g.2 in
    not_inside m (from + w.size) xs at x ys b h.2 there rest

-- one more at the end
pub one_more : (m : Memory) (from : ℕ) (xs : List FetchedInstr) (at : ℕ) (x : FetchedInstr)
    → HasItems m from xs at → fetched_at m at ≡ Some x → 0 < x.size
    → HasItems m from (xs ++ (x ∷ [])) (at + x.size)
one_more m from [] at x h there pos =
    let e : from ≡ at = h in
    (subst (λ k. fetched_at m k ≡ Some x) (sym e) there, pos, ap (λ k. k + x.size) e)
one_more m from (w ∷ xs) at x h there pos =
    (h.0, h.1, one_more m (from + w.size) xs at x h.2 there pos)

-- instructions up to where no further one ends inside are the most
pub at_most : (m : Memory) (at : ℕ) (xs : List FetchedInstr) (stop : ℕ) (ys : List FetchedInstr)
    (end to : ℕ) → HasItems m at xs stop → HasItems m at ys end → end ≤ to
    → (StandsAt m stop to → ⊥) → length ys ≤ length xs
at_most m at xs stop [] end to h g le none = omega arith
at_most m at [] stop (y ∷ ys) end to h g le none =
    let e : at ≡ stop = h in
    let rise = items_rise m (at + y.size) ys end g.2 in
    absurd (none (record {
      item = y;
      there = subst (λ k. fetched_at m k ≡ Some y) e g.0;
      sized = g.1;
      inside = omega (arith, rise, e, le);
    }))
at_most m at (x ∷ xs) stop (y ∷ ys) end to h g le none =
    let same : y ≡ x = one_there m at y x g.0 h.0 in
    let rest = subst (λ (z : FetchedInstr). HasItems m (at + z.size) ys end) same g.2 in
    let n = at_most m (at + x.size) xs stop ys end to h.2 rest le none in
    omega (arith, n)
