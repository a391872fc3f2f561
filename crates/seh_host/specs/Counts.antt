-- How many events a host has counted after some turns.
use Rattle.std.specs.Prelude.{◌≡◌, ℕ, ◌+◌, ◌≤◌, length}
use Rattle.seh_io.specs.Streams.{HasCount}
use Rattle.seh_host.specs.Running.{Running, made, shown_made}

-- at most so many turns were made, and what they show was counted
pub record CountedTurns (turns : ℕ) (r : Running) (count : ℕ) (r' : Running) (count' : ℕ)
    : Type 0 where
  pub turns_made : ℕ
  pub within : turns_made ≤ turns
  pub host : r' ≡ made turns_made r
  pub counted : HasCount (count + length (shown_made turns_made r)) count'
