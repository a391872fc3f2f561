-- Lists of vectored handlers, in the order in which they are asked (own).
--
-- `added`, `removed`: the list of vectored handlers after one was to be added, in front of the
-- others or behind them, and after one was to be taken out. It is added exactly where it isn't
-- there yet and fewer than 16 are (`can_be_added`), and taken out exactly where it is there
-- (`is_listed`); else the list stays as it is (own; Windows headers,
-- `AddVectoredExceptionHandler`).
use Rattle.std.specs.Prelude.{ℕ, Bool, true, false, ◌&&◌, ◌||◌, not, nat_eq, nat_lt, if◌then◌else◌, List, [], ◌∷◌, ◌++◌, length}
use Rattle.vectored_list.specs.declared.TheConstants.{MOST_HANDLERS}

-- the handler is in the list
abbrev pub is_listed : ℕ → List ℕ → Bool
is_listed f [] = false
is_listed f (g ∷ gs) = nat_eq f g || is_listed f gs

-- it isn't, and one more has room
abbrev pub can_be_added : ℕ → List ℕ → Bool
can_be_added f fs = not (is_listed f fs) && nat_lt (length fs) MOST_HANDLERS

-- in front of the others, or behind them
abbrev pub put_in : (first : Bool) → ℕ → List ℕ → List ℕ
put_in true f fs = f ∷ fs
put_in false f fs = fs ++ f ∷ []

-- the list after a handler was to be added
abbrev pub added : (first : Bool) → ℕ → List ℕ → List ℕ
added first f fs = if can_be_added f fs then put_in first f fs else fs

-- the list after a handler was to be taken out
abbrev pub removed : ℕ → List ℕ → List ℕ
removed f [] = []
removed f (g ∷ gs) = if nat_eq f g then gs else g ∷ removed f gs
