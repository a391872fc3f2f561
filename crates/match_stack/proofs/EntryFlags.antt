-- An entry's flags hide no record that would be asked.
use Rattle.std.proofs.Common.{◌≡◌, ◌⊎◌, inl, inr, ℕ, zero, suc, ◌+◌, Bool, true, false, cond, Some, None, List, [], ◌∷◌, drop, refl, sym, ap, ◌∙◌}
use Rattle.match_stack.specs.Words.{ScopeRecord, Info, Functions, AskedRecord, holding, rows_from, is_end, unwound, until, until_if, first_with_jump_target, first_finally, Funclet, LinearProgram, ImagePlan, IsFlagged, is_searched, is_unwound, asked_by, searched, AllFinally, AllExcept}
use Rattle.seh_walk.specs.Asked.{holds}

module _ (t : Functions) (fs : List Funclet) (program : LinearProgram) (p : ImagePlan) where
  finally_dropped : (row : ℕ) (xs : List ScopeRecord) → AllFinally t fs program p xs
      → AllFinally t fs program p (drop row xs)
  finally_dropped zero xs h = h
  finally_dropped (suc row) [] h = tt
  finally_dropped (suc row) (x ∷ xs) h = finally_dropped row xs h.1

  except_dropped : (row : ℕ) (xs : List ScopeRecord) → AllExcept t fs program p xs
      → AllExcept t fs program p (drop row xs)
  except_dropped zero xs h = h
  except_dropped (suc row) [] h = tt
  except_dropped (suc row) (x ∷ xs) h = except_dropped row xs h.1

  no_jump : (rva n : ℕ) (xs : List ScopeRecord) → AllFinally t fs program p xs
      → first_with_jump_target (holding rva n xs) ≡ None
  no_jump rva n [] all = refl
  no_jump rva n (x ∷ xs) all = here (holds x rva) (no_jump rva (n + 1) xs all.1)
    where
      here : (h : Bool) → first_with_jump_target (holding rva (n + 1) xs) ≡ None
          → first_with_jump_target (cond h ((n, x) ∷ holding rva (n + 1) xs)
          (holding rva (n + 1) xs))
          ≡ None
      here true more = ap (λ b. cond b (first_with_jump_target (holding rva (n + 1) xs))
          (Some (n, x))) all.0 ∙ more
      here false more = more

  -- in all rows, and up to any target
  pub record NoBlocks (rows : List AskedRecord) : Type 0 where
    pub all : first_finally rows ≡ None
    pub front : (target : ℕ) → first_finally (until target rows) ≡ None

  no_blocks : (rva n : ℕ) (xs : List ScopeRecord) → AllExcept t fs program p xs
      → NoBlocks (holding rva n xs)
  no_blocks rva n [] all = record { all = refl; front = λ target. refl }
  no_blocks rva n (x ∷ xs) all = here (holds x rva) (no_blocks rva (n + 1) xs all.1)
    where
      stop : (b : Bool) (ys : List AskedRecord) → first_finally ys ≡ None
          → first_finally (cond b [] ((n, x) ∷ ys)) ≡ None
      stop true ys e = refl
      stop false ys e = ap (λ b. cond b (Some (n, x)) (first_finally ys)) all.0 ∙ e

      here : (h : Bool) → NoBlocks (holding rva (n + 1) xs)
          → NoBlocks (cond h ((n, x) ∷ holding rva (n + 1) xs) (holding rva (n + 1) xs))
      here true more = record {
        all = ap (λ b. cond b (Some (n, x)) (first_finally (holding rva (n + 1) xs))) all.0
            ∙ more.all;
        front = λ target. stop (is_end target x) (until target (holding rva (n + 1) xs))
            (more.front target);
      }
      here false more = more

  pub searched_all : (i : Info) (rva row : ℕ) → IsFlagged t fs program p i
      → first_with_jump_target (searched (Some i) rva row)
      ≡ first_with_jump_target (rows_from rva row i.scopes)
  searched_all i rva row f = by f.searched
    where
      hidden : (b : Bool) → first_with_jump_target (rows_from rva row i.scopes) ≡ None
          → first_with_jump_target (asked_by b i rva row)
          ≡ first_with_jump_target (rows_from rva row i.scopes)
      hidden true e = refl
      hidden false e = sym e

      by : (is_searched i ≡ true) ⊎ AllFinally t fs program p i.scopes
          → first_with_jump_target (asked_by (is_searched i) i rva row)
          ≡ first_with_jump_target (rows_from rva row i.scopes)
      by (inl e) = ap (λ b. first_with_jump_target (asked_by b i rva row)) e
      by (inr a) = hidden (is_searched i) (no_jump rva row (drop row i.scopes)
          (finally_dropped row i.scopes a))

  pub unwound_all : (i : Info) (rva row : ℕ) (is_last : Bool) (target : ℕ)
      → IsFlagged t fs program p i → first_finally (unwound (Some i) rva row is_last target)
      ≡ first_finally (until_if is_last target (rows_from rva row i.scopes))
  unwound_all i rva row is_last target f = by f.unwound
    where
      hidden : (b is_last : Bool) → NoBlocks (rows_from rva row i.scopes)
          → first_finally (until_if is_last target (asked_by b i rva row))
          ≡ first_finally (until_if is_last target (rows_from rva row i.scopes))
      hidden true is_last e = refl
      hidden false true e = sym (e.front target)
      hidden false false e = sym e.all

      by : (is_unwound i ≡ true) ⊎ AllExcept t fs program p i.scopes
          → first_finally (until_if is_last target (asked_by (is_unwound i) i rva row))
          ≡ first_finally (until_if is_last target (rows_from rva row i.scopes))
      by (inl e) = ap (λ b. first_finally (until_if is_last target (asked_by b i rva row))) e
      by (inr a) = hidden (is_unwound i) is_last
          (no_blocks rva row (drop row i.scopes) (except_dropped row i.scopes a))
