-- The states that a program goes through, and what a part of it comes to.
--
-- The main definitions: `State`, `walk_events`, `Result`.
use Rattle.std.specs.Prelude.{ℕ, ◌+◌, ◌-◌, Bool, true, false, nat_lt, List, [], ◌∷◌, ◌++◌, length, take}
use Rattle.std.specs.Prelude.{slice_index, slice_set, slice_get, map, Option, Some, None}
use Rattle.seh_num.specs.declared.event.Event.{Event}
use Rattle.seh_num.specs.declared.event.Event.TheVariants.{At}
use Rattle.flat_memory.specs.Memory.{Memory}
use Rattle.source_meaning.specs.declared.ended.Ended.{Ended}
use Rattle.source_meaning.specs.declared.ended.Ended.TheVariants.{Deep}
use Rattle.source_meaning.specs.declared.depth.TheConstants.{DEEPEST, TOO_DEEP}

-- an exception: its code, whether it is noncontinuable, and for a refused access whether it was a
-- write, and the address
pub record Exception : Type 0 where
  pub code : ℕ
  pub flag : Bool
  pub access : Option (Bool × ℕ)

-- the steps that are left; memory; the live activations' locals, outermost first, and their
-- functions; what is held of the depth beside them: 2 for each filter, vectored handler and
-- `__finally` block that runs, or that a target has left, 1 for each activation that a target has
-- left, and of each activation, live or left, what its function weighs above 1; of what a target
-- has left, until it lands; the events so far; the vectored handlers, by the numbers of their
-- functions, in the order in which they are asked
pub record State : Type 0 where
  pub steps_left : ℕ
  pub memory : Memory
  pub frames : List (List ℕ)
  pub functions : List ℕ
  pub held : ℕ
  pub events : List Event
  pub vectored : List ℕ

-- what a part of a program comes to; a target names its handler by the number of handlers outside
-- its `__try`; an end is none where no step was left
pub data Result : Type 0 where
  Value : ℕ → Result
  Normal : Result
  Returned : ℕ → Result
  Broke : Result
  Continued : Result
  LeftTry : Result
  Target : ℕ → Exception → Result
  End : Option Ended → Result

pub data Outcome : Type 0 where
  Gives : Result → State → Outcome

abbrev pub how_of : Outcome → Result
how_of (Gives how st) = how

abbrev pub state_of : Outcome → State
state_of (Gives how st) = st

abbrev pub frame_of : State → ℕ → List ℕ
frame_of st k = elim (slice_get st.frames k) [ Some frame ↦ frame | None ↦ [] ]

abbrev pub local_of : State → ℕ → ℕ → ℕ
local_of st k x = slice_index (frame_of st k) x

abbrev pub set_local : State → ℕ → ℕ → ℕ → State
set_local st k x v = record st { frames = slice_set st.frames k (slice_set (frame_of st k) x v) }

-- with an activation of this function, with these locals
abbrev pub with_activation : ℕ → List ℕ → State → State
with_activation f locals st =
    record st { frames = st.frames ++ locals ∷ []; functions = st.functions ++ f ∷ [] }

-- with the outermost so many activations alone
abbrev pub with_outermost : ℕ → State → State
with_outermost n st = record st { frames = take n st.frames; functions = take n st.functions }

-- with so much more held, and so much less
abbrev pub hold_surplus : ℕ → State → State
hold_surplus s st = record st { held = st.held + s }

abbrev pub let_go_surplus : ℕ → State → State
let_go_surplus s st = record st { held = st.held - s }

abbrev pub set_memory : State → Memory → State
set_memory st memory = record st { memory = memory }

abbrev pub set_vectored : State → List ℕ → State
set_vectored st vectored = record st { vectored = vectored }

abbrev pub emit : Event → State → State
emit e st = record st { events = st.events ++ e ∷ [] }

-- several events, in this order
abbrev pub emit_all : List Event → State → State
emit_all es st = record st { events = st.events ++ es }

-- what a call of `walk` shows, all in one step: the numbers, from 1, of the functions of the live
-- activations, innermost first (own)
abbrev pub walk_events : List ℕ → List Event
walk_events functions = map (λ f. At (f + 1)) functions

abbrev pub hold : State → State
hold st = record st { held = st.held + 2 }

abbrev pub let_go : State → State
let_go st = record st { held = st.held - 2 }

abbrev pub depth : State → ℕ
depth st = length st.frames + st.held

-- continues in one of two ways
unfoldable pub choose : Bool → (State → Outcome) → (State → Outcome) → State → Outcome
choose true a b st = a st
choose false a b st = b st

-- continues unless the depth would rise above the greatest
unfoldable pub deeper : ℕ → State → (State → Outcome) → Outcome
deeper n st go =
    choose (nat_lt DEEPEST (depth st + n)) (λ st. Gives (End (Some (Deep TOO_DEEP))) st) go st

-- so many steps fewer are left
abbrev pub count_steps : ℕ → State → State
count_steps n st = record st { steps_left = st.steps_left - n }

-- continues after so many steps at once, unless fewer are left
unfoldable pub counting : ℕ → State → (State → Outcome) → Outcome
counting n st go =
    choose (nat_lt st.steps_left n) (λ st. Gives (End None) st) (λ st. go (count_steps n st)) st

-- continues with a value; any other result stays
unfoldable pub with_value : Outcome → (ℕ → State → Outcome) → Outcome
with_value (Gives (Value v) st) go = go v st
with_value o go = o

-- continues after a normal end; any other result stays
unfoldable pub and_then : Outcome → (State → Outcome) → Outcome
and_then (Gives Normal st) go = go st
and_then o go = o
