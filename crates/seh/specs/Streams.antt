-- What is known of a stream: its bytes, over memory alone, and its faults.
use Rattle.std.specs.Prelude.{ℕ, List, Option}
use Rattle.seh_io.specs.Streams.{Faults, Faultless, Grew}

pub record Stream : Type 0 where
  pub bytes : Option (List ℕ)
  pub faults : Faults

-- a source or a sink, by its two ghost functions
abbrev pub stream : {X : Type 0} → (X → Option (List ℕ)) → (X → Faults) → X → Stream
stream bytes faults x = record { bytes = bytes x; faults = faults x }

-- a sink took the whole text, and no write was a fault
pub record TookWhole (text : List ℕ) (old new : Stream) : Type 0 where
  pub grew : Grew old.bytes text new.bytes
  pub faultless : Faultless old.faults new.faults
