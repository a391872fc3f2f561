-- What holds of the routines that have no entry, in every image.
use Rattle.std.specs.Prelude.{◌≡◌, ℕ, ◌+◌, ◌<◌, ◌≤◌, true, false, List, []}
use Rattle.flat_memory.specs.Memory.{Memory}
use Rattle.virtual_unwind.specs.Contexts.{is_nonvolatile}
use Rattle.virtual_unwind.specs.Tail.{FetchedInstr}
use Rattle.frame_rules.specs.Body.{Body, following, is_body}
use Rattle.frame_rules.specs.States.{HasItems, is_written}
use Rattle.uncovered_code.specs.References.{Code, is_uncovered}
use Rattle.uncovered_code.specs.Routines.{IsUncoveredRoutine, IsInRoutine}

-- each byte of a section that no entry covers is in one of them
abbrev pub UncoveredBytesAreInRoutines : Type 0
UncoveredBytesAreInRoutines =
    (c : Code) (at : ℕ) → is_uncovered c at ≡ true → IsInRoutine c at

-- and in no other: two that have a byte together are one
abbrev pub RoutinesAreApart : Type 0
RoutinesAreApart =
    (c : Code) (begin end other other_end at : ℕ)
    → IsUncoveredRoutine c begin end → IsUncoveredRoutine c other other_end
    → begin ≤ at → at < end → other ≤ at → at < other_end
    → (begin ≡ other) × (end ≡ other_end)

-- the instructions from one address to another are one list
abbrev pub InstructionsAreOneList : Type 0
InstructionsAreOneList =
    (m : Memory) (at to : ℕ) (xs ys : List FetchedInstr) → HasItems m at xs to → HasItems m at ys to
    → xs ≡ ys

-- instructions that keep the rules for a body without a frame write no nonvolatile register, but
-- RSP by a return
abbrev pub FramelessWritesNoNonvolatile : Type 0
FramelessWritesNoNonvolatile =
    (rest : List FetchedInstr) (r : ℕ) → is_body (following 0 0 [] rest (Body [])) ≡ true
    → is_nonvolatile r ≡ true → is_written 0 r rest ≡ false
