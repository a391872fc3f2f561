-- What is claimed of whole programs and their linear code.
--
-- The main definition: `Follows`.
use Rattle.std.specs.Prelude.{◌≡◌, ◌≤◌, ℕ, ◌+◌, ◌*◌, ℤ, List, Some}
use Rattle.seh_num.specs.declared.event.Event.{Event}
use Rattle.c_checked.specs.Program.{Program}
use Rattle.source_meaning.specs.declared.ended.Ended.{Ended}
use Rattle.source_meaning.specs.Meaning.{meaning}
use Rattle.source_meaning.specs.Laws.{IsPrefixOf}
use Rattle.linear_code.specs.Program.{LinearProgram}
use Rattle.linear_machine.specs.Frames.{Stuck}
use Rattle.linear_machine.specs.Run.{seen, linear_meaning}
use Rattle.lowering_follows.specs.StatementPlaces.{IsLinked}

-- from 16 n + 6 turns on the linear code has shown the events of n steps, and has ended as they
-- end. `NoMore` with so many steps per turn: m turns show no event and no end that (m + 1) times as
-- many steps don't show, and no run is stuck
abbrev pub Follows : Program → LinearProgram → Type 0
Follows program linear =
    (arg : ℤ) (n turns : ℕ) → 16 * n + 6 ≤ turns
    → IsPrefixOf (meaning program arg n).events (linear_meaning linear arg turns).events
    × ((e : Ended) → (meaning program arg n).end ≡ Some e
    → linear_meaning linear arg turns ≡ meaning program arg n)

-- m turns have shown no more than so many steps have, and end only as they end; no run is stuck
abbrev pub NoMore : Program → LinearProgram → ℕ → Type 0
NoMore program linear steps_per_turn =
    (arg : ℤ) (m n : ℕ) → (m + 1) * steps_per_turn ≤ n
    → IsPrefixOf (linear_meaning linear arg m).events (meaning program arg n).events
    × ((e : Ended) → (linear_meaning linear arg m).end ≡ Some e
    → meaning program arg n ≡ linear_meaning linear arg m)
    × ((es : List Event) → seen linear arg m ≡ Stuck es → ⊥)

-- the linear code of a program does what the program means, and nothing more
abbrev pub LinkedFollows : Type 0
LinkedFollows =
    (program : Program) (linear : LinearProgram) (steps_per_turn body : ℕ) → IsLinked program linear
    steps_per_turn body
    → Follows program linear × NoMore program linear steps_per_turn
