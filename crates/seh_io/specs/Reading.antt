-- Why a source wasn't read to its end.
use Rattle.std.specs.Prelude.{◌≡◌, ℕ, ◌+◌, ◌<◌, ◌≤◌, List, length}
use Rattle.std.specs.Prelude.{Option}
use Rattle.std.specs.Option.{ForSome}
use Rattle.seh_io.specs.declared.reading.ReadErr.{ReadErr}
use Rattle.seh_io.specs.declared.reading.ReadErr.TheVariants.{Fault, TooLong, Memory}
use Rattle.seh_io.specs.Streams.{Faults, Lost, Faultless, Faulted}

-- the first bytes, at most this many, are gone from the source
abbrev pub LostAtMost : ℕ → Option (List ℕ) → Option (List ℕ) → Type 0
LostAtMost most left left' = (bytes : List ℕ) × (length bytes ≤ most) × Lost left bytes left'

-- a fault is the source's own, and ends the reading; what is too long holds more than the limit,
-- and one byte more was read
abbrev pub ReadHasCause : ℕ → Option (List ℕ) → Option (List ℕ) → Faults → Faults → ReadErr
    → Type 0
ReadHasCause limit left left' faults faults' Fault = Faulted faults faults'
ReadHasCause limit left left' faults faults' (TooLong most) =
    (most ≡ limit) × ForSome left (λ all. limit < length all)
    × ((bytes : List ℕ) × (length bytes ≡ limit + 1) × Lost left bytes left')
    × Faultless faults faults'
ReadHasCause limit left left' faults faults' Memory = Faultless faults faults'
