-- What holds of every program.
use Rattle.std.specs.Prelude.{◌≡◌, ℕ, ◌+◌, true, [], ◌∷◌, ◌++◌, ℤ, Some}
use Rattle.c_checked.specs.Program.{Program}
use Rattle.source_meaning.specs.declared.ended.Ended.{Ended}
use Rattle.source_meaning.specs.State.{Exception}
use Rattle.source_meaning.specs.Tasks.{Raise}
use Rattle.source_meaning.specs.Raises.{raise_event}
use Rattle.source_meaning.specs.Meaning.{does, ran, meaning, Calm}
use Rattle.source_machine.specs.Frames.{Place, Begin}
use Rattle.source_machine.specs.Machine.{Machine, step}
use Rattle.source_machine.specs.FrameMeanings.{comes_to}
use Rattle.source_machine.specs.StepLaws.{is_over}
use Rattle.source_machine.specs.Tame.{Tame}
use Rattle.source_machine.specs.Runs.{first, after}
use Rattle.source_machine.specs.Plain.{Plain}

abbrev pub TameIsCalm : Type 0
TameIsCalm = (program : Program) (arg : ℤ) → Tame program arg → (n : ℕ) → Calm program arg n ≡ true

-- a program that has ended, and was calm until then, is Tame
abbrev pub EndedIsTame : Type 0
EndedIsTame =
    (program : Program) (arg : ℤ) (n : ℕ) (e : Ended) → (meaning program arg n).end ≡ Some e
    → Calm program arg n ≡ true → Tame program arg

abbrev pub PlainBefore : Type 0
PlainBefore =
    (program : Program) (arg : ℤ) (n k : ℕ) → Plain program arg (n + k) → Plain program arg n

-- ---- the run of which Plain speaks is the program's

-- wherever it is, it comes to what the program comes to
abbrev pub OneRun : Type 0
OneRun =
    (program : Program) (arg : ℤ) (n k : ℕ)
    → comes_to program (does program) (after program k (first program arg n)) ≡ ran program arg n

-- and it ends
abbrev pub ComesToEnd : Type 0
ComesToEnd =
    (program : Program) (arg : ℤ) (n : ℕ)
    → (k : ℕ) × (is_over (after program k (first program arg n)).next ≡ true)

-- a raise is shown
abbrev pub RaisesShow : Type 0
RaisesShow =
    (program : Program) (m : Machine) (exc : Exception) (p : Place) → m.next ≡ Begin (Raise exc) p
    → (step program m).state.events ≡ m.state.events ++ raise_event exc ∷ []
