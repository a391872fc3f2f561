-- An entry in which the caller is found everywhere: an assignment of knowledge to its addresses
-- goes on through the instructions that stand there, and is right at each.
--
-- The main definition: `KeptIsFound`.
use Rattle.std.specs.Prelude.{◌≡◌, ℕ, Bool, true, false, if◌then◌else◌, List, Option, Some, None}
use Rattle.flat_memory.specs.Memory.{Memory, executable}
use Rattle.x64_machine.specs.Effect.{State}
use Rattle.eh_tables.specs.Tables.{Entry, covers_address}
use Rattle.virtual_unwind.specs.CallerOf.{Functions, distance, entry_of}
use Rattle.abi_unwind.specs.Caller.{abi_caller}
use Rattle.frame_known.specs.Knowledge.{Reach, IsEntered}
use Rattle.frame_known.specs.Measured.{step_at}
use Rattle.frame_known.specs.Standing.{Assigned, Stands, IsRightAt, Code, GoesOnThrough, Walks}
use Rattle.frame_known.specs.Laws.{seen, IsCaller}

-- the instructions at the addresses of an entry
abbrev pub code_of : Functions → Memory → Entry → Code
code_of t m entry a =
    if covers_address (distance t.base a) entry.range then step_at m a else None

-- where an instruction goes on outside, anything may be assigned, as a knowledge that says nothing
pub record IsKept (t : Functions) (reach : Reach) (entry : Entry) (m : Memory) (at : Assigned)
    : Type 0 where
  pub goes_on : GoesOnThrough (code_of t m entry) at
  pub right : (a : ℕ) → entry_of t a ≡ Some entry → IsRightAt t reach entry m at a

-- two memories have the same code
abbrev pub SameCode : Memory → Memory → Type 0
SameCode m n = (count a : ℕ) → executable n count a ≡ executable m count a

-- from a state that stands, as the entry's does or one at the begin of a fragment, wherever the
-- entry's own instructions lead: the caller that is found is the one that entered the function
abbrev pub KeptIsFound : Type 0
KeptIsFound =
    (t : Functions) (reach : Reach) (entry : Entry) (m : Memory) (at : Assigned) (e b s : State)
    (n : ℕ) (vectors : List ℕ)
    → IsEntered reach e → IsKept t reach entry m at → Stands at e b
    → Walks (code_of t m entry) e n b s → entry_of t s.cpu.rip ≡ Some entry → SameCode m s.memory
    → IsCaller e (abi_caller t s.memory (seen s vectors))
