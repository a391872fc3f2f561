-- A slot is written: what linear code has then, and what templates leave.
use Rattle.std.proofs.Common.{◌≡◌, ◌≢◌, ℕ, zero, suc, ◌+◌, ◌<◌, ◌≤◌, cond, Option, Some, None, List, [], ◌∷◌, ◌++◌, length, take, refl, sym, ap, subst, ◌∙◌, arith, inl, inr, length-append, length-take-le}
use Rattle.std.specs.Prelude.{◌⊎◌, slice_get, slice_index, slice_set}
use Rattle.std.proofs.lemmas.Bool.{cases_eq, eq-eqb, ne_eqb}
use Rattle.lowering_invariants.specs.Registers.{SlotHas}
use Rattle.match_bodies.specs.Words.{Slot, Local, Temporary, with_slot, LeavesRegisters}
use Rattle.match_bodies.proofs.Places.LocalPlaces.{leaves_same, leaves_set}

-- the numbers of the locals, and the temporaries, after a store into a slot
abbrev pub locals_after : List ℕ → Slot → ℕ → List ℕ
locals_after values (Local x) v = slice_set values x v
locals_after values (Temporary i) v = values

abbrev pub temporaries_after : List ℕ → Slot → ℕ → List ℕ
temporaries_after ts (Local x) v = ts
temporaries_after ts (Temporary i) v = take i ts ++ v ∷ []

abbrev pub FitsAfter : List ℕ → Slot → Type 0
FitsAfter ts (Local x) = Unit {0}
FitsAfter ts (Temporary i) = i ≤ length ts

pub set_length : (xs : List ℕ) (i v : ℕ) → length (slice_set xs i v) ≡ length xs
set_length [] i v = refl
set_length (x ∷ xs) zero v = refl
set_length (x ∷ xs) (suc i) v = ap suc (set_length xs i v)

pub set_at : (xs : List ℕ) (i v : ℕ) → i < length xs → slice_index (slice_set xs i v) i ≡ v
set_at [] i v lt = absurd (omega arith)
set_at (x ∷ xs) zero v lt = refl
set_at (x ∷ xs) (suc i) v lt = set_at xs i v (omega arith)

pub set_beside : (xs : List ℕ) (i j v : ℕ) → j ≢ i
    → slice_index (slice_set xs i v) j ≡ slice_index xs j
set_beside [] i j v n = refl
set_beside (x ∷ xs) zero zero v n = absurd (n refl)
set_beside (x ∷ xs) zero (suc j) v n = refl
set_beside (x ∷ xs) (suc i) zero v n = refl
set_beside (x ∷ xs) (suc i) (suc j) v n = set_beside xs i j v (λ e. n (ap suc e))

-- after so many
pub got_after : (xs : List ℕ) (i : ℕ) (v j w : ℕ) → i ≤ length xs
    → slice_get (take i xs ++ v ∷ []) j ≡ Some w
    → ((j < i) × (slice_get xs j ≡ Some w)) ⊎ ((j ≡ i) × (v ≡ w))
got_after xs zero v zero w le e = inr (refl, the_same v w e)
  where
    the_same : (a b : ℕ) → Some a ≡ Some b → a ≡ b
    the_same a b e = cc
got_after xs zero v (suc j) w le e = cc
got_after [] (suc i) v j w le e = absurd (omega arith)
got_after (x ∷ xs) (suc i) v zero w le e = inl (omega arith, e)
got_after (x ∷ xs) (suc i) v (suc j) w le e = elim (got_after xs i v j w (omega arith) e) [
  | inl r ↦ (let a = r.0 in inl (omega arith, r.1))
  | inr
      r ↦ (let a = r.0 in inr (omega arith, r.1))
]

-- ---- what templates leave

pub local_after : (slots : Slot → ℕ) (values : List ℕ) (to : Slot) (v j : ℕ) → j < length values
    → slots (Local j) ≡ slice_index values j → with_slot slots to v (Local j)
    ≡ slice_index (locals_after values to v) j
local_after slots values (Local x) v j lt e = elim (cases_eq j x) [
  | inl h ↦ ap (λ z. cond z v (slots (Local j))) (eq-eqb j x h)
      ∙ sym (subst (λ k. slice_index (slice_set values x v) k ≡ v) (sym h)
      (set_at values x v (omega arith)))
  | inr h ↦ ap (λ z. cond z v (slots (Local j))) (ne_eqb j x h) ∙ e
      ∙ sym (set_beside values x j v h)
]
local_after slots values (Temporary i) v j lt e = e

pub temporary_after : (slots : Slot → ℕ) (ts : List ℕ) (to : Slot) (v j w : ℕ) → FitsAfter ts to
    → ((j w : ℕ) → slice_get ts j ≡ Some w → slots (Temporary j) ≡ w)
    → slice_get (temporaries_after ts to v) j ≡ Some w → with_slot slots to v (Temporary j) ≡ w
temporary_after slots ts (Local x) v j w fits all e = all j w e
temporary_after slots ts (Temporary i) v j w fits all e = elim (got_after ts i v j w fits e) [
  | inl r ↦ (let a = r.0 in ap (λ z. cond z v (slots (Temporary j)))
      (ne_eqb j i (λ h. absurd (omega arith))) ∙ all j w r.1)
  | inr r ↦ ap (λ z. cond z v (slots (Temporary j))) (eq-eqb j i r.0) ∙ r.1
]

pub locals_count_after : (values : List ℕ) (to : Slot) (v : ℕ)
    → length (locals_after values to v) ≡ length values
locals_count_after values (Local x) v = set_length values x v
locals_count_after values (Temporary i) v = refl

-- a local that is in no register
abbrev pub HasNoRegister : (ℕ → Option ℕ) → ℕ → Type 0
HasNoRegister register x = register x ≡ None

-- a store into such a local leaves those in registers as they were
pub others_after : (register : ℕ → Option ℕ) (values : List ℕ) (to : Slot) (v : ℕ)
    → SlotHas (HasNoRegister register) to
    → LeavesRegisters register 0 values (locals_after values to v)
others_after register values (Local x) v none = leaves_set register values x v none
others_after register values (Temporary i) v none = leaves_same register 0 values

-- at most one more
pub one_more : (ts : List ℕ) (to : Slot) (v : ℕ) → FitsAfter ts to
    → length (temporaries_after ts to v) ≤ length ts + 1
one_more ts (Local x) v fits = omega arith
one_more ts (Temporary i) v fits = omega (
  arith,
  length-append (take i ts) (v ∷ []),
  length-take-le i ts fits,
)
