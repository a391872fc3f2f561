-- What holds of every program.
use Rattle.std.specs.Prelude.{◌≡◌, ℕ, ◌+◌, ◌≤◌, true, List, ◌++◌, ℤ, Some}
use Rattle.seh_num.specs.declared.event.Event.{Event}
use Rattle.seh_num.specs.Shown.{Shown}
use Rattle.c_checked.specs.Program.{Program}
use Rattle.source_meaning.specs.declared.ended.Ended.{Ended}
use Rattle.source_meaning.specs.State.{State, state_of}
use Rattle.source_meaning.specs.Tasks.{Context, Task, counted}
use Rattle.source_meaning.specs.Meaning.{perform, does, Calm}

-- a list is the front of another
abbrev pub IsPrefixOf : List Event → List Event → Type 0
IsPrefixOf es fs = (rest : List Event) × (es ++ rest ≡ fs)

-- what a task does is one step, and then its case
abbrev pub DoesIs : Type 0
DoesIs =
    (program : Program) (task : Task) (context : Context) (st : State)
    → does program task context st ≡ counted st (λ st. perform program
    (does program) task context st)

-- no more steps are left after a task than before it
abbrev pub NeverRises : Type 0
NeverRises =
    (program : Program) (task : Task) (context : Context) (st : State)
    → (state_of (does program task context st)).steps_left ≤ st.steps_left

-- by a meaning of programs of any kind, what n steps show is the front of what more steps show
abbrev pub ShowsMore : {P : Type 0} → (P → ℤ → ℕ → Shown Ended) → Type 0
ShowsMore {P} means =
    (program : P) (arg : ℤ) (n k : ℕ)
    → IsPrefixOf (means program arg n).events (means program arg (n + k)).events

-- and a program that has ended shows nothing more
abbrev pub EndStays : {P : Type 0} → (P → ℤ → ℕ → Shown Ended) → Type 0
EndStays {P} means =
    (program : P) (arg : ℤ) (n k : ℕ) (e : Ended) → (means program arg n).end ≡ Some e
    → means program arg (n + k) ≡ means program arg n

abbrev pub CalmBefore : Type 0
CalmBefore =
    (program : Program) (arg : ℤ) (n k : ℕ) → Calm program arg (n + k) ≡ true
    → Calm program arg n ≡ true

-- what a task shows comes after what was shown before it
abbrev pub EventsGrow : Type 0
EventsGrow =
    (program : Program) (task : Task) (context : Context) (st : State)
    → IsPrefixOf st.events (state_of (does program task context st)).events
