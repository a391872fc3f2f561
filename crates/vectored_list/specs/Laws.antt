-- What holds of every list of vectored handlers.
use Rattle.std.specs.Prelude.{◌≡◌, ◌≤◌, ℕ, Bool, false, List, [], ◌∷◌, length}
use Rattle.vectored_list.specs.declared.TheConstants.{MOST_HANDLERS}
use Rattle.vectored_list.specs.Lists.{is_listed, added, removed}

-- each handler is in the list once
abbrev pub EachOnce : List ℕ → Type 0
EachOnce [] = Unit
EachOnce (f ∷ fs) = (is_listed f fs ≡ false) × EachOnce fs

-- the lists that a host can have
pub record IsProper (fs : List ℕ) : Type 0 where
  pub once : EachOnce fs
  pub few : length fs ≤ MOST_HANDLERS

-- a list that has each handler once, and at most 16, stays so
abbrev pub AddingStaysProper : Type 0
AddingStaysProper = (first : Bool) (f : ℕ) (fs : List ℕ) → IsProper fs → IsProper (added first f fs)

abbrev pub RemovingStaysProper : Type 0
RemovingStaysProper = (f : ℕ) (fs : List ℕ) → IsProper fs → IsProper (removed f fs)

-- one that is taken out isn't in the list any more
abbrev pub RemovedIsGone : Type 0
RemovedIsGone = (f : ℕ) (fs : List ℕ) → IsProper fs → is_listed f (removed f fs) ≡ false
