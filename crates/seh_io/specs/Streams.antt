-- Streams of bytes: what a call moved, and the faults.
use Rattle.std.specs.Prelude.{◌≡◌, ℕ, ◌+◌, ◌-◌, ◌^◌, ◌==◌, min, Bool, true, false, List, ◌++◌}
use Rattle.std.specs.Prelude.{Option, Some}
use Rattle.std.specs.Option.{ForSome}
use Rattle.std.specs.List.{list_any}

-- the last value of a count, at which it stays
abbrev pub last_count : ℕ
last_count = 2 ^ 64 - 1

-- one more than n, as a count goes
abbrev pub next_count : ℕ → ℕ
next_count n = min (n + 1) last_count

-- a count of n things is m
abbrev pub HasCount : ℕ → ℕ → Type 0
HasCount n m = min m last_count ≡ min n last_count

-- the faults of a stream: how many there were, at most the last value of a count, and whether the
-- last call was one
pub record Faults : Type 0 where
  pub count : ℕ
  pub failed : Bool

abbrev pub faults_of : ℕ → Bool → Faults
faults_of count failed = record { count = count; failed = failed }

-- after a call without a fault
abbrev pub succeeded : Faults → Faults
succeeded old = faults_of old.count false

-- after a call that was a fault
abbrev pub faulted : Faults → Faults
faulted old = faults_of (next_count old.count) true

-- no call was a fault; a count at its last value can't tell
abbrev pub Faultless : Faults → Faults → Type 0
Faultless old new = new.count ≡ old.count

-- one call was a fault, and it was the last: none was made after it
abbrev pub Faulted : Faults → Faults → Type 0
Faulted old new = new ≡ faulted old

-- where it is known what a source holds: it began with these bytes, and holds the rest now
abbrev pub Lost : Option (List ℕ) → List ℕ → Option (List ℕ) → Type 0
Lost left bytes left' =
    ForSome left (λ all. (rest : List ℕ) × (all ≡ bytes ++ rest) × (left' ≡ Some rest))

-- where it is known what a sink took: it took these bytes too now
abbrev pub Grew : Option (List ℕ) → List ℕ → Option (List ℕ) → Type 0
Grew taken bytes taken' = ForSome taken (λ before. taken' ≡ Some (before ++ bytes))

-- whether the call of this number is among those that fail
abbrev pub is_among : List ℕ → ℕ → Bool
is_among calls number = list_any (λ call. call == number) calls
