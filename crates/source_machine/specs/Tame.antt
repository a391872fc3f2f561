-- Programs that touch no reserved byte and stay within the depth, however long they run.
--
-- The main definition: `Tame`.
use Rattle.std.specs.Prelude.{◌≡◌, ℕ, true, ℤ}
use Rattle.c_checked.specs.Program.{Program}
use Rattle.source_meaning.specs.Meaning.{Calm}

-- a program is Calm within each number of steps: it touches no reserved byte and stays within the
-- depth, however long it runs
abbrev pub Tame : Program → ℤ → Type 0
Tame program arg = (n : ℕ) → Calm program arg n ≡ true
