use Rattle.std.proofs.Common.{◌≡◌, ◌+◌, ◌≤◌, ℕ, length}
use Rattle.x64_memory.specs.Regions.{filled}
use Rattle.x64_replay.specs.MapSpaces.{memory_of, holds}
use Rattle.x64_replay.proofs.map_space.MapSpace.fill.Given as goal

abbrev pub invariant-loop-rest : goal.invariant-loop-rest
invariant-loop-rest l = record {
  memory : filled (memory_of l.self) l.here l.rest
      ≡ filled (memory_of l.fn.self) l.fn.at l.fn.piece;
  holds : (a : ℕ) → holds l.self a ≡ holds l.fn.self a;
  start : l.fn.at ≤ l.here;
  end : l.here + length l.rest ≡ l.fn.at + length l.fn.piece;
}

abbrev pub decreases-loop-rest : goal.decreases-loop-rest
decreases-loop-rest l = length l.rest
