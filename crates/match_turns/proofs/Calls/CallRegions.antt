-- Tests that pass the same elements of a list agree on each of them.
use Rattle.std.proofs.Common.{◌≡◌, ℕ, ◌+◌, Bool, true, false, cond, List, [], ◌∷◌, drop, filter, Some, refl, sym, ap, subst, ◌∙◌}
use Rattle.std.specs.Prelude.{slice_get}
use Rattle.std.specs.List.{AllByRecursion}
use Rattle.match_turns.specs.Words.{Functions, Funclet, Instruction, Region, LinearProgram, LinearBody, BodyName, body_of, holds, regions_of, AllReturnsStayInRegions, ImagePlan, SameRegions}
use Rattle.lowering_invariants.specs.ReturnRegions.{is_call}

module _ {A : Type 0} (f g : A → Bool) where
  abbrev passed : (A → Bool) → A → List A → Bool → List A
  passed f x xs b = cond b (x ∷ filter f xs) (filter f xs)

  all_pass : (xs : List A) → AllByRecursion (λ (x : A). g x ≡ true) (filter g xs)
  all_pass [] = tt
  all_pass (x ∷ xs) = by (all_pass xs) (g x) refl
    where
      by : AllByRecursion (λ (x : A). g x ≡ true) (filter g xs) → (b : Bool) → g x ≡ b
          → AllByRecursion (λ (x : A). g x ≡ true) (passed g x xs b)
      by rest true e = (e, rest)
      by rest false e = rest

  none_passes : (x : A) (xs ys : List A) → x ∷ ys ≡ filter g xs → g x ≡ true
  none_passes x xs ys e = (subst (AllByRecursion (λ (x : A). g x ≡ true)) (sym e) (all_pass xs)).0

module _ {A : Type 0} (f g : A → Bool) where
  pub same_filtered : (xs : List A) → filter f xs ≡ filter g xs
      → AllByRecursion (λ (x : A). f x ≡ g x) xs
  same_filtered [] e = tt
  same_filtered (x ∷ xs) e = by (same_filtered xs) (f x) refl (g x) refl e
    where
      by : (filter f xs ≡ filter g xs → AllByRecursion (λ (x : A). f x ≡ g x) xs) → (a : Bool)
          → f x ≡ a → (b : Bool) → g x ≡ b → cond a (x ∷ filter f xs) (filter f xs)
          ≡ cond b (x ∷ filter g xs) (filter g xs)
          → (f x ≡ g x) × AllByRecursion (λ (x : A). f x ≡ g x) xs
      by rest true p true q e = (p ∙ sym q, rest (ap (drop 1) e))
      by rest false p false q e = (p ∙ sym q, rest e)
      by rest true p false q e = let z : true ≡ false = sym (none_passes f g x xs (filter f xs) e)
          ∙ q in absurd cc
      by rest false p true q e = let z : true
          ≡ false = sym (none_passes g f x xs (filter g xs) (sym e)) ∙ p in absurd cc

-- a call and the instruction after it are in the same regions
pub apart_same : (t : Functions) (fs : List Funclet) (program : LinearProgram) (p : ImagePlan)
    → AllReturnsStayInRegions program → (name : BodyName) (b : LinearBody) (label : ℕ)
    (i : Instruction)
    → body_of program name ≡ Some b → slice_get b.code label ≡ Some i → is_call i ≡ true
    → SameRegions t fs program p (body_of program name) (label + 1) label
apart_same t fs program p apart name b label i there at call =
    subst (λ (rs : List Region). AllByRecursion
    (λ (r : Region). holds (label + 1) r ≡ holds label r) rs) (sym (ap regions_of there))
    (same_filtered (holds (label + 1)) (holds label) b.regions
    ((apart name b there).regions label i at call))
