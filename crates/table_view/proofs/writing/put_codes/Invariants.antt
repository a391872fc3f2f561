use Rattle.std.proofs.Common.{◌≡◌}
use Rattle.std.specs.List.{flat_map}
use Rattle.seh_io.specs.Writer.{Writer, Wrote, writer_of}
use Rattle.table_view.specs.View.{code_line}
use Rattle.table_view.proofs.writing.put_codes.Given as goal

abbrev pub invariant-loop-code : goal.invariant-loop-code
invariant-loop-code g l = record {
  can : (goal.iterator-loop-code g).can_next l.code-iterator;
  ends : (goal.iterator-loop-code g).is_finite l.code-iterator;
  same : l.out.sink.ghost_name ≡ l.fn.out.sink.ghost_name;
  rest : (z : Writer) → Wrote (writer_of g.O.Sink.taken g.O.Sink.faults l.out)
      (flat_map code_line l.code-iterator) z → Wrote
      (writer_of g.O.Sink.taken g.O.Sink.faults l.fn.out) (flat_map code_line l.info.codes) z;
}
