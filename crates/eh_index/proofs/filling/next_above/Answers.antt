use Rattle.std.proofs.Common.{◌≡◌, get_or, inl, inr, ap, arith}
use Rattle.std.proofs.lemmas.Bool.{cases_lt}
use Rattle.eh_tables.specs.declared.range.RuntimeFunction.{RuntimeFunction}
use Rattle.eh_tables.specs.Tables.{no_range}
use Rattle.eh_index.proofs.filling.next_above.Goals as goal

pub loop-index-preserved : goal.loop-index-preserved
loop-index-preserved c =
    let rs = c.args.tables.now.ranges in
    let l = c.loop-index in
    let under = c.loop-index-test.true in
    let by = c.if-at-range.false in
    let end : c.range-range.result.end ≡ (get_or rs l.index no_range).end = ap
    (λ (r : RuntimeFunction). r.end) c.range-range.ensures in
    record {
      within = omega arith;
      below = record {
        ends = λ j lt. elim (cases_lt j l.index) [
          | inl before ↦ l.invariant.below.ends j before
          | inr at ↦ (let same : j ≡ l.index = omega arith in
              let e = ap (λ k. (get_or rs k no_range).end) same in omega arith)
        ];
      };
    }
