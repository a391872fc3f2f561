-- Records and regions from a row on, and the record before a row.
use Rattle.std.proofs.Common.{◌≡◌, ℕ, zero, suc, ◌+◌, ◌≤◌, false, cond, List, [], ◌∷◌, length, drop, Some, refl, sym, ap, ◌∙◌, arith}
use Rattle.std.specs.Prelude.{filter}
use Rattle.std.specs.List.{AllByRecursion}
use Rattle.std.proofs.Math.Seq.{drop-nil}
use Rattle.std.proofs.lemmas.List.{drop-drop}
use Rattle.match_stack.specs.Words.{ScopeRecord, Functions, Funclet, holding, row_before, Region, LinearProgram, BodyName, holds, ImagePlan, AreRegions}

pub row_before_dropped : (row off : ℕ) (xs : List ScopeRecord) (q : ScopeRecord)
    → row_before (drop row xs) (suc off) ≡ Some q → row_before xs (suc (row + off)) ≡ Some q
row_before_dropped row off [] q e = ap (λ (ys : List ScopeRecord). row_before ys (suc off))
    (sym (drop-nil row)) ∙ e
row_before_dropped zero off (x ∷ xs) q e = ap (row_before (x ∷ xs))
    (let a : suc (0 + off) ≡ suc off = omega arith in a) ∙ e
row_before_dropped (suc row) off (x ∷ xs) q e = ap (row_before (x ∷ xs))
    (let a : suc (suc row + off) ≡ suc (suc (row + off)) = omega arith in a)
    ∙ row_before_dropped row off xs q e

pub row_before_short : (xs : List ScopeRecord) (k : ℕ) (q : ScopeRecord)
    → row_before xs (suc k) ≡ Some q → suc k ≤ length xs
row_before_short [] k q e = absurd cc
row_before_short (x ∷ xs) zero q e = omega arith
row_before_short (x ∷ xs) (suc k) q e = let h = row_before_short xs k q e in omega arith

module _ (t : Functions) (fs : List Funclet) (program : LinearProgram) (p : ImagePlan)
    (name : BodyName) where
  pub regions_dropped : (row : ℕ) (xs : List ScopeRecord) (rs : List Region)
      → AreRegions t fs program p name xs rs → AreRegions t fs program p name (drop row xs)
      (drop row rs)
  regions_dropped zero xs rs h = h
  regions_dropped (suc row) [] [] h = tt
  regions_dropped (suc row) (x ∷ xs) (r ∷ rs) h = regions_dropped row xs rs h.1
  regions_dropped (suc row) [] (r ∷ rs) h = absurd h
  regions_dropped (suc row) (x ∷ xs) [] h = absurd h

-- what is left after a place that was counted from a row on
pub dropped_again : {A : Type 0} (row off index : ℕ) (rs : List A) → index ≡ row + off
    → drop (suc off) (drop row rs) ≡ drop (index + 1) rs
dropped_again row off index rs e = drop-drop (suc off) row rs
    ∙ ap (λ n. drop n rs) (let a : row + suc off ≡ index + 1 = omega arith in a)

-- what holds of each element holds of each from a place on
pub all_dropped : {A : Type 0} (P : A → Type 0) (row : ℕ) (xs : List A) → AllByRecursion P xs
    → AllByRecursion P (drop row xs)
all_dropped P zero xs h = h
all_dropped P (suc row) [] h = tt
all_dropped P (suc row) (x ∷ xs) h = all_dropped P row xs h.1

-- ---- without rows

-- where no region holds an instruction, none holds one that the same regions hold
pub none_held : (label next : ℕ) (rs : List Region)
    → AllByRecursion (λ (r : Region). holds label r ≡ false) rs
    → AllByRecursion (λ (r : Region). holds label r ≡ holds next r) rs
    → filter (holds next) rs ≡ []
none_held label next [] none same = refl
none_held label next (r ∷ rs) none same =
    ap (λ b. cond b (r ∷ filter (holds next) rs) (filter (holds next) rs)) (sym same.0 ∙ none.0)
    ∙ none_held label next rs none.1 same.1

-- nor of those from a row on
pub none_held_from : (label next row : ℕ) (rs : List Region)
    → AllByRecursion (λ (r : Region). holds label r ≡ false) rs
    → AllByRecursion (λ (r : Region). holds label r ≡ holds next r) rs
    → filter (holds next) (drop row rs) ≡ []
none_held_from label next row rs none same =
    none_held label next (drop row rs)
    (all_dropped (λ (r : Region). holds label r ≡ false) row rs none)
    (all_dropped (λ (r : Region). holds label r ≡ holds next r) row rs same)

-- and no record is asked
pub none_asked : (rva row : ℕ) (scopes : List ScopeRecord) → scopes ≡ []
    → holding rva row (drop row scopes) ≡ []
none_asked rva row scopes e =
    ap (λ (xs : List ScopeRecord). holding rva row (drop row xs)) e
    ∙ ap (holding rva row) (drop-nil row)
