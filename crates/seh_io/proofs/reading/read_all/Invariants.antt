use Rattle.std.proofs.Common.{◌≤◌, ◌-◌, vec_len}
use Rattle.seh_io.specs.Streams.{Lost, Faultless}
use Rattle.seh_io.proofs.reading.read_all.Given as goal

abbrev pub invariant-loop-count : goal.invariant-loop-count
invariant-loop-count g l = record {
  within : vec_len l.bytes ≤ l.limit;
  lost : Lost (g.S.Source.left l.initial.src) l.bytes.items (g.S.Source.left l.src);
  faultless : Faultless (g.S.Source.faults l.initial.src) (g.S.Source.faults l.src);
}

abbrev pub decreases-loop-count : goal.decreases-loop-count
decreases-loop-count g l = l.limit - vec_len l.bytes
