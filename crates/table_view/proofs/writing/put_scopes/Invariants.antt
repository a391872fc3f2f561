use Rattle.std.proofs.Common.{◌≡◌, ◌+◌, length}
use Rattle.seh_io.specs.Writer.{Writer, Wrote, writer_of}
use Rattle.table_view.specs.View.{scope_lines}
use Rattle.table_view.proofs.writing.put_scopes.Given as goal

abbrev pub invariant-loop-row : goal.invariant-loop-row
invariant-loop-row g l = record {
  can : (goal.iterator-loop-row g).can_next l.row-iterator;
  ends : (goal.iterator-loop-row g).is_finite l.row-iterator;
  same : l.out.sink.ghost_name ≡ l.fn.out.sink.ghost_name;
  room : l.number + length l.row-iterator ≡ length l.info.scopes;
  rest : (z : Writer) → Wrote (writer_of g.O.Sink.taken g.O.Sink.faults l.out)
      (scope_lines l.number l.row-iterator) z
      → Wrote (writer_of g.O.Sink.taken g.O.Sink.faults l.fn.out) (scope_lines 0 l.info.scopes) z;
}
