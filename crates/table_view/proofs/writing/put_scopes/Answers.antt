use Rattle.std.proofs.Common.{List, length, ap, ◌∙◌, arith}
use Rattle.eh_tables.specs.declared.scope.ScopeRecord.{ScopeRecord}
use Rattle.table_view.specs.View.{scope_line, scope_lines}
use Rattle.table_view.proofs.Texts.{same, joined, then_rest, done}
use Rattle.table_view.proofs.writing.put_scopes.Goals as goal

pub loop-row-preserved : goal.loop-row-preserved
loop-row-preserved g c = record {
  can = tt;
  ends = tt;
  same = c.put_joined.ensures.same_reference ∙ c.loop-row.invariant.same;
  room = let e = ap length c.in-Some.ensures.steps in omega (arith, c.loop-row.invariant.room);
  rest = λ z p. c.loop-row.invariant.rest z (then_rest _ _ z
      (scope_line c.loop-row.number c.in-Some.row) _ _
      (ap (λ (t : List ScopeRecord). scope_lines c.loop-row.number t) c.in-Some.ensures.steps)
      (same _ _ _ _ c.put_joined.ensures.wrote
      (joined _ _ _ _ c.scope_begin.ensures c.kind_line.ensures)) p);
}

pub returns-clause-wrote : goal.returns-clause-wrote
returns-clause-wrote g c = c.loop-row.invariant.rest _
    (done _ _ (ap (λ (t : List ScopeRecord). scope_lines c.loop-row.number t)
    c.in-None.ensures.steps.0))
