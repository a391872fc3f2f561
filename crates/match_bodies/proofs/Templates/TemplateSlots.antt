-- What templates leave in the slots of a body.
use Rattle.std.proofs.Common.{◌≡◌, ℕ, zero, suc, ◌<◌, ◌≤◌, Some, List, [], ◌∷◌, length, refl, arith}
use Rattle.std.specs.Prelude.{slice_get, slice_index}
use Rattle.match_bodies.specs.Words.{Local, Temporary, BodyState, LinearBody, BodyName, FuncletBody, ImagePlan, IsReached, LeavesRegisters, Region, holds}
use Rattle.std.specs.List.{AllByRecursion}

-- ---- the numbers of locals

pub get_index : (vs : List ℕ) (i v : ℕ) → slice_get vs i ≡ Some v
    → (slice_index vs i ≡ v) × (i < length vs)
get_index [] i v e = cc
get_index (x ∷ vs) zero v e = (the_same x v e, omega arith)
  where
    the_same : (a b : ℕ) → Some a ≡ Some b → a ≡ b
    the_same a b e = cc
get_index (x ∷ vs) (suc i) v e = let r = get_index vs i v e in let lt = r.1 in (r.0, omega arith)

-- an instruction is held by the regions that hold it
pub same_regions : (rs : List Region) (label : ℕ)
    → AllByRecursion (λ (r : Region). holds label r ≡ holds label r) rs
same_regions [] label = tt
same_regions (r ∷ rs) label = (refl, same_regions rs label)

-- what templates leave in a body's slots: these temporaries, and these locals, of which a funclet
-- leaves those that it doesn't reach as they were
pub record Leaves (p : ImagePlan) (name : BodyName) (b : LinearBody) (d : BodyState)
    (old values ts : List ℕ) : Type 0 where
  pub count : length values ≡ b.locals
  pub locals : (i : ℕ) → i < b.locals → IsReached p name i
      → d.slots (Local i) ≡ slice_index values i
  pub others : (k : ℕ) → name ≡ FuncletBody k → LeavesRegisters (p.register name) 0 old values
  pub few : length ts ≤ b.temporaries
  pub temporaries : (i v : ℕ) → slice_get ts i ≡ Some v → d.slots (Temporary i) ≡ v
