use Rattle.std.proofs.Common.{◌≡◌, drop}
use Rattle.seh_io.specs.Writer.{Writer, Wrote, writer_of}
use Rattle.eh_tables.specs.Tables.{end_before}
use Rattle.table_view.specs.View.{all_lines}
use Rattle.table_view.proofs.writing.put_entries.Given as goal

abbrev pub invariant-loop-index : goal.invariant-loop-index
invariant-loop-index g l = record {
  same : l.out.sink.ghost_name ≡ l.fn.out.sink.ghost_name;
  rest : (z : Writer) → Wrote (writer_of g.O.Sink.taken g.O.Sink.faults l.out)
      (all_lines l.names l.tables.image l.index (end_before l.tables.ranges l.index)
      (drop l.index l.tables.ranges)) z
      → Wrote (writer_of g.O.Sink.taken g.O.Sink.faults l.fn.out)
      (all_lines l.names l.tables.image 0 0 l.tables.ranges) z;
}
