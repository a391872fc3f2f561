use Rattle.std.proofs.Common.{◌≡◌, ℕ, ◌<◌, ◌≤◌, ◌+◌, ◌-◌, ◌/◌, length, get_or, inl, inr, sym, ap, arith}
use Rattle.std.proofs.lemmas.Bool.{cases_lt}
use Rattle.eh_tables.specs.declared.range.RuntimeFunction.{RuntimeFunction}
use Rattle.eh_tables.specs.Tables.{no_range}
use Rattle.eh_tables.proofs.RangesAscending.{range_ends_below, range_not_empty, covers_none_past, covers_none_between, covers}
use Rattle.eh_index.proofs.lookup.Index.covering.Goals as goal

pub loop-low-init : goal.loop-low-init
loop-low-init c =
    let rs = c.args.tables.now.ranges in
    let w = c.bounds-begin.ensures.within in
    record {
      within = omega arith;
      below = λ up k lt. c.bounds-begin.ensures.below rs up.index k lt;
      above = λ up lt.
          c.bounds-begin.ensures.above rs (omega arith) up.index up.ascend (omega arith);
    }

pub loop-low-preserved-then-range-rva : goal.loop-low-preserved-then-range-rva
loop-low-preserved-then-range-rva c =
    let rs = c.args.tables.now.ranges in
    let l = c.loop-low in
    let w = l.invariant.within in
    let u = c.loop-low-test.true in
    let middle = l.low + (l.high - l.low) / 2 in
    let inside : middle < length rs = omega arith in
    let end : c.range-range.result.end ≡ (get_or rs middle no_range).end = ap
    (λ (r : RuntimeFunction). r.end) c.range-range.ensures in
    let le = c.if-range-rva.true in
    record {
      within = w;
      below = λ up k lt. elim (cases_lt k middle) [
        | inl before ↦ (let ends = range_ends_below rs up.ascend k middle before inside in
            let some = range_not_empty rs up.ascend middle inside in omega arith)
        | inr after ↦ (let e : k ≡ middle = omega arith in
            let same = ap (λ n. (get_or rs n no_range).end) e in omega arith)
      ];
      above = l.invariant.above;
    }

pub loop-low-preserved : goal.loop-low-preserved
loop-low-preserved c =
    let rs = c.args.tables.now.ranges in
    let l = c.loop-low in
    let w = l.invariant.within in
    let u = c.loop-low-test.true in
    let middle = l.low + (l.high - l.low) / 2 in
    let begin : c.range-range.result.begin ≡ (get_or rs middle no_range).begin = ap
    (λ (r : RuntimeFunction). r.begin) c.range-range.ensures in
    let under = c.if-rva-range.true in
    record {
      within = omega arith;
      below = l.invariant.below;
      above = λ up lt. omega arith;
    }

pub returns-else-rva-range-clause-row : goal.returns-else-rva-range-clause-row
returns-else-rva-range-clause-row c =
    let rs = c.args.tables.now.ranges in
    let l = c.loop-low in
    let w = l.invariant.within in
    let u = c.loop-low-test.true in
    let middle = l.low + (l.high - l.low) / 2 in
    let begin : c.range-range.result.begin ≡ (get_or rs middle no_range).begin = ap
    (λ (r : RuntimeFunction). r.begin) c.range-range.ensures in
    let end : c.range-range.result.end ≡ (get_or rs middle no_range).end = ap
    (λ (r : RuntimeFunction). r.end) c.range-range.ensures in
    let from = c.if-rva-range.false in
    let under = c.if-range-rva.false in
    record { within = omega arith; begin = omega arith; end = omega arith }

pub returns-else-rva-range-clause-exact : goal.returns-else-rva-range-clause-exact
returns-else-rva-range-clause-exact c up =
    let rs = c.args.tables.now.ranges in
    let l = c.loop-low in
    let w = l.invariant.within in
    let u = c.loop-low-test.true in
    let middle = l.low + (l.high - l.low) / 2 in
    let inside : middle < length rs = omega arith in
    let begin : c.range-range.result.begin ≡ (get_or rs middle no_range).begin = ap
    (λ (r : RuntimeFunction). r.begin) c.range-range.ensures in
    let end : c.range-range.result.end ≡ (get_or rs middle no_range).end = ap
    (λ (r : RuntimeFunction). r.end) c.range-range.ensures in
    let from = c.if-rva-range.false in
    let under = c.if-range-rva.false in
    sym (covers rs up.ascend c.args.rva middle
    (λ j lt. (let b = l.invariant.below up in
    let ends = range_ends_below rs up.ascend j middle lt inside in omega arith)) inside
    (omega arith) (omega arith))

pub returns-clause-exact : goal.returns-clause-exact
returns-clause-exact c up =
    let rs = c.args.tables.now.ranges in
    let l = c.loop-low in
    let w = l.invariant.within in
    let over = c.loop-low-test.false in
    let below : (j : ℕ) → j < l.high → (get_or rs j no_range).end
    ≤ c.args.rva = λ j lt. l.invariant.below up j (omega arith) in
    elim (cases_lt l.high (length rs)) [
      | inl lt ↦ sym (covers_none_between rs up.ascend c.args.rva l.high below lt
          (l.invariant.above up lt))
      | inr le ↦ sym (covers_none_past rs up.ascend c.args.rva l.high below (omega arith))
    ]
