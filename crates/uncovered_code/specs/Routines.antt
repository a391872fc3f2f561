-- The routines of an image that have no entry: leaf functions and thunks (Microsoft x64 ABI,
-- "Unwind data for exception handling": a leaf function needs no entry).
--
-- The main definitions: `IsUncoveredRoutine`, `IsFrameless`.
use Rattle.std.specs.Prelude.{◌≡◌, ◌⊎◌, ℕ, ◌+◌, ◌<◌, ◌≤◌, Bool, true, false, ◌==◌, ◌&&◌, ◌||◌, List, [], ◌∷◌}
use Rattle.virtual_unwind.specs.Contexts.{is_nonvolatile}
use Rattle.virtual_unwind.specs.Tail.{FetchedInstr}
use Rattle.frame_rules.specs.Body.{Body, following, is_body}
use Rattle.frame_rules.specs.States.{HasItems, is_written}
use Rattle.uncovered_code.specs.References.{Code, is_uncovered, is_first, places}

abbrev pub is_among : ℕ → List ℕ → Bool
is_among at [] = false
is_among at (x ∷ xs) = (x == at) || is_among at xs

-- where a routine without an entry begins: where uncovered code does, or at one of the `places`
abbrev pub is_beginning : Code → ℕ → Bool
is_beginning c at = is_uncovered c at && (is_first c at || is_among at (places c))

-- a routine without an entry, from its beginning to the next one, the next range or the section's
-- end, whichever comes first
pub record IsUncoveredRoutine (c : Code) (begin end : ℕ) : Type 0 where
  pub beginning : is_beginning c begin ≡ true
  pub some : begin < end
  pub alone : (at : ℕ) → begin ≤ at → at < end → is_uncovered c at ≡ true
  pub one : (at : ℕ) → begin < at → at < end → is_beginning c at ≡ false
  pub ends : (is_uncovered c end ≡ false) ⊎ (is_beginning c end ≡ true)

-- an address in such a routine
pub record IsInRoutine (c : Code) (at : ℕ) : Type 0 where
  pub begin : ℕ
  pub end : ℕ
  pub is : IsUncoveredRoutine c begin end
  pub low : begin ≤ at
  pub high : at < end

-- its bytes are instructions one after another from its beginning to its end. None of them but a
-- return or a jump out of it writes RSP, and none writes another nonvolatile register.
pub record IsFrameless (c : Code) (begin end : ℕ) : Type 0 where
  pub rest : List FetchedInstr
  pub there : HasItems c.memory begin rest end
  pub right : is_body (following 0 0 [] rest (Body [])) ≡ true

-- every routine of a section that has no entry is such
abbrev pub UncoveredRoutinesAreFrameless : Code → Type 0
UncoveredRoutinesAreFrameless c =
    (begin end : ℕ) → IsUncoveredRoutine c begin end → IsFrameless c begin end
