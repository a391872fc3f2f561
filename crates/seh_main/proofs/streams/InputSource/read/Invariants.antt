use Rattle.std.proofs.Common.{◌≡◌, false}
use Rattle.seh_main.proofs.streams.InputSource.read.Given as goal

abbrev pub invariant-loop : goal.invariant-loop
invariant-loop g l = (l.self.faults ≡ l.fn.self.faults) × (l.self.failed ≡ false)
