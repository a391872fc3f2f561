use Rattle.std.proofs.Common.{◌≤◌, ◌-◌, length, take}
use Rattle.seh_io.specs.Streams.{Grew, Faultless}
use Rattle.seh_io.proofs.writing.put_all.Given as goal

abbrev pub invariant-loop-taken : goal.invariant-loop-taken
invariant-loop-taken g l = record {
  within : l.taken ≤ length l.piece;
  grew : Grew (g.O.Sink.taken l.initial.sink) (take l.taken l.piece) (g.O.Sink.taken l.sink);
  faultless : Faultless (g.O.Sink.faults l.initial.sink) (g.O.Sink.faults l.sink);
}

abbrev pub decreases-loop-taken : goal.decreases-loop-taken
decreases-loop-taken g l = length l.piece - l.taken
