use Rattle.std.proofs.Common.{ap, ◌∙◌, arith}
use Rattle.std.specs.Prelude.{Result}
use Rattle.eh_tables.specs.declared.refusal.TableErr.{TableErr}
use Rattle.eh_tables.specs.Tables.{Entry, entry_at}
use Rattle.table_view.specs.View.{entry_lines}
use Rattle.table_view.proofs.Texts.{same, then_rest, done, entry_first, entries_over}
use Rattle.table_view.proofs.writing.put_entries.Goals as goal

pub loop-index-preserved : goal.loop-index-preserved
loop-index-preserved g c = record {
  same = c.put_entry.ensures.same_reference ∙ c.loop-index.invariant.same;
  rest = λ z p. c.loop-index.invariant.rest z
      (then_rest _ _ z (entry_lines c.args.names.now c.loop-index.index
      (entry_at c.args.tables.now c.loop-index.index)) _ _
      (entry_first c.args.names.now c.args.tables.now c.loop-index.index
      (omega (arith, c.len-index-end.ensures)))
      (same _ _ _ _ c.put_entry.ensures.wrote
      (ap (λ (r : Result Entry TableErr). entry_lines c.args.names.now c.loop-index.index r)
      c.entry.ensures)) p);
}

pub returns-clause-wrote : goal.returns-clause-wrote
returns-clause-wrote g c = c.loop-index.invariant.rest _
    (done _ _ (entries_over c.args.names.now c.args.tables.now c.loop-index.index
    (omega (arith, c.len-index-end.ensures))))
