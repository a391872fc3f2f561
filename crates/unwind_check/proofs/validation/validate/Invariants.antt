use Rattle.std.proofs.Common.{◌≤◌, length, take}
use Rattle.eh_tables.specs.Tables.{entries_of}
use Rattle.unwind_check.specs.Verdicts.{AllAreKept}
use Rattle.unwind_tails.specs.TailEnds.{AreEnded}
use Rattle.unwind_check.proofs.validation.validate.Given as goal

abbrev pub invariant-loop-index : goal.invariant-loop-index
invariant-loop-index g l = record {
  most : l.index ≤ length l.tables.ranges;
  kept : AllAreKept
      (record { memory = g.S.CodeSpace.memory l.space; probe = l.probe; ranges = l.tables.ranges })
      (take l.index (entries_of l.tables));
  ended : AreEnded (g.S.CodeSpace.memory l.space) l.known;
}
