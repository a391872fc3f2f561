-- Runs in which no exception is raised while a filter, a vectored handler, or a `__finally` block
-- with flag 1, runs.
--
-- The main definition: `Plain`.
use Rattle.std.specs.Prelude.{◌≡◌, ℕ, Bool, true, false, ◌&&◌, List, [], ◌∷◌, ℤ}
use Rattle.c_checked.specs.Program.{Program}
use Rattle.source_meaning.specs.Tasks as tasks
use Rattle.source_machine.specs.Frames as frames
use Rattle.source_machine.specs.Frames.{ContinuationFrame, InStatement, Sequel, Next, Begin}
use Rattle.source_machine.specs.Machine.{Machine}
use Rattle.source_machine.specs.Runs.{first, after}

-- a filter, or a vectored handler, runs where its end is waited for; a `__finally` block with flag
-- 1 runs where the result waits that it has interrupted
abbrev pub is_inside : List ContinuationFrame → Bool
is_inside [] = false
is_inside (InStatement frames.EndsFilter ∷ fs) = true
is_inside (InStatement (frames.EndsVectored place exc p) ∷ fs) = true
is_inside (Sequel (frames.GivesResult how) ∷ fs) = true
is_inside (f ∷ fs) = is_inside fs

-- an exception is raised
abbrev pub is_raise : Next → Bool
is_raise (Begin (tasks.Raise exc) p) = true
is_raise next = false

abbrev pub raises_inside : Machine → Bool
raises_inside m = is_raise m.next && is_inside m.stack

-- within n steps no exception is raised while a filter, a vectored handler, or a `__finally` block
-- with flag 1, runs; a raise that is about to begin counts too where no step is left for it
abbrev pub Plain : Program → ℤ → ℕ → Type 0
Plain program arg n = (k : ℕ) → raises_inside (after program k (first program arg n)) ≡ false
