use Rattle.std.proofs.Common.{List, ap, ◌∙◌}
use Rattle.std.specs.List.{flat_map}
use Rattle.eh_tables.specs.declared.code.UnwindCode.{UnwindCode}
use Rattle.table_view.specs.View.{code_line}
use Rattle.table_view.proofs.Texts.{same, joined, then_rest, done}
use Rattle.table_view.proofs.writing.put_codes.Goals as goal

pub loop-code-preserved : goal.loop-code-preserved
loop-code-preserved g c = record {
  can = tt;
  ends = tt;
  same = c.put_joined.ensures.same_reference ∙ c.loop-code.invariant.same;
  rest = λ z p. c.loop-code.invariant.rest z (then_rest _ _ z (code_line c.in-Some.code) _ _
      (ap (λ (t : List UnwindCode). flat_map code_line t) c.in-Some.ensures.steps)
      (same _ _ _ _ c.put_joined.ensures.wrote
      (joined _ _ _ _ c.code_begin.ensures c.code_end.ensures)) p);
}

pub returns-clause-wrote : goal.returns-clause-wrote
returns-clause-wrote g c = c.loop-code.invariant.rest _
    (done _ _ (ap (λ (t : List UnwindCode). flat_map code_line t) c.in-None.ensures.steps.0))
