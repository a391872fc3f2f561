-- Every number that is kept is one of 64 bits.
--
-- The main definition: `HasSmallNumbers`.
use Rattle.std.specs.Prelude.{ℕ, ◌+◌, ◌^◌, ◌<◌, ◌≤◌, Bool, List, [], ◌∷◌, Option, Some, None}
use Rattle.std.specs.List.{AllByRecursion}
use Rattle.host_layout.specs.declared.range.TheConstants.{DATA_STACK_START}
use Rattle.flat_memory.specs.Memory.{Memory}
use Rattle.source_meaning.specs.State.{Exception}
use Rattle.linear_machine.specs.Frames.{Frame, Asked, FilterOf, VectoredAt, Item, Waits, Searches, Unwinds, Configuration}
use Rattle.vectored_list.specs.Laws.{IsProper}
use Rattle.vectored_list.specs.declared.TheConstants.{MOST_HANDLERS}

abbrev pub AreSmall : List ℕ → Type 0
AreSmall vs = AllByRecursion (λ v. v < 2 ^ 64) vs

-- a code has 32 bits
abbrev pub IsSmallCode : Option ℕ → Type 0
IsSmallCode None = Unit {0}
IsSmallCode (Some code) = code < 2 ^ 32

abbrev pub IsSmallAccess : Option (Bool × ℕ) → Type 0
IsSmallAccess None = Unit {0}
IsSmallAccess (Some access) = access.1 < 2 ^ 64

pub record IsSmallException (e : Exception) : Type 0 where
  pub code : e.code < 2 ^ 32
  pub access : IsSmallAccess e.access

pub record IsSmallFrame (f : Frame) : Type 0 where
  pub temporaries : AreSmall f.temporaries
  pub exception : IsSmallException f.exception
  pub landed : IsSmallCode f.landed

-- a vectored handler was at one of the places that their list has at most
abbrev pub IsSmallPlace : Asked → Type 0
IsSmallPlace (FilterOf h rest) = Unit {0}
IsSmallPlace (VectoredAt place) = place < MOST_HANDLERS

abbrev pub AreSmallItems : List Item → Type 0
AreSmallItems [] = Unit {0}
AreSmallItems (Waits f ∷ below) = IsSmallFrame f × AreSmallItems below
AreSmallItems (Searches exception resumption asked ∷ below) =
    IsSmallException exception × IsSmallPlace asked × AreSmallItems below
AreSmallItems (Unwinds rest target ∷ below) = IsSmallCode target.code × AreSmallItems below

-- the bytes of the data stack's pointer have 8 bits
abbrev pub HasSmallPointer : Memory → Type 0
HasSmallPointer m =
    (a : ℕ) → DATA_STACK_START ≤ a → a < DATA_STACK_START + 8 → m.byte a < 256

-- in temporaries, locals and exceptions, and in the data stack's pointer; the vectored handlers are
-- at most 16, each once
pub record HasSmallNumbers (c : Configuration) : Type 0 where
  pub items : AreSmallItems (Waits c.frame ∷ c.below)
  pub locals : AllByRecursion AreSmall c.store.activations
  pub pointer : HasSmallPointer c.store.memory
  pub handlers : IsProper c.store.vectored
