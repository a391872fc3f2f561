-- What has been set for the bodies that wait, with other marks of their activations.
use Rattle.std.proofs.Common.{ℕ, zero, suc, ◌<◌, ◌≤◌, List, [], ◌∷◌, length, arith, length-append}
use Rattle.std.proofs.lemmas.Option.{slice_get_within}
use Rattle.std.specs.Prelude.{take}
use Rattle.lowering_locals.specs.Words.{LinearProgram, BodyName, FunctionBody, FuncletBody, Frame, Item, Waits, Searches, Unwinds, owners_of, with_own, WorksOn, AreWorking, Marks, SeenNames, Marked, AreCovered}

-- what is set among the first ones is set
pub taken_has : (n : ℕ) (marks : Marks) (k x : ℕ) → Marked (take n marks) k x → Marked marks k x
taken_has zero marks k x e = absurd (cc)
taken_has (suc n) [] k x e = e
taken_has (suc n) (m ∷ marks) zero x e = e
taken_has (suc n) (m ∷ marks) (suc k) x e = taken_has n marks k x e

module _ (program : LinearProgram) where
  pub bound : (name : BodyName) (f : Frame) (owners : List ℕ) → WorksOn program f name owners
      → f.activation < length (with_own name owners)
  bound (FunctionBody k) f owners w = let l = length-append owners (k ∷ []) in omega arith
  bound (FuncletBody k) f owners w = slice_get_within owners f.activation w.0 w.2

  pub own_grows : (name : BodyName) (owners : List ℕ)
      → length owners ≤ length (with_own name owners)
  own_grows (FunctionBody k) owners = let l = length-append owners (k ∷ []) in omega arith
  own_grows (FuncletBody k) owners = omega arith

  module _ (sets : BodyName → ℕ → SeenNames) where
    pub covered_next : (marks next : Marks) (items : List Item) (n : ℕ)
        → AreWorking program items → length (owners_of items) ≤ n
        → ((k x : ℕ) → k < n → Marked marks k x → Marked next k x)
        → AreCovered program sets marks items → AreCovered program sets next items
    covered_next marks next [] n h le keeps w = tt
    covered_next marks next (Waits f ∷ below) n h le keeps w =
        let b = bound f.body f (owners_of below) h.0 in
        let g = own_grows f.body (owners_of below) in (
          (λ x q. keeps f.activation x (omega arith) (w.0 x q)),
          covered_next marks next below n h.1 (omega arith) keeps w.1,
        )
    covered_next marks next (Searches exception resumption asked ∷ below) n h le keeps w =
        covered_next marks next below n h le keeps w
    covered_next marks next (Unwinds rest target ∷ below) n h le keeps w =
        covered_next marks next below n h le keeps w
