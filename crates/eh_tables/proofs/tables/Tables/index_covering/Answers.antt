use Rattle.std.proofs.Common.{◌≡◌, ℕ, ◌<◌, ◌≤◌, ◌+◌, ◌-◌, ◌/◌, length, get_or, inl, inr, sym, ap, arith}
use Rattle.std.proofs.lemmas.Bool.{cases_lt}
use Rattle.eh_tables.specs.Words.{RuntimeFunction, no_range}
use Rattle.eh_tables.proofs.RangesAscending.{range_ends_below, range_not_empty, covers_none_past, covers_none_between, covers}
use Rattle.eh_tables.proofs.tables.Tables.index_covering.Goals as goal

pub loop-low-preserved-then-range-rva : goal.loop-low-preserved-then-range-rva
loop-low-preserved-then-range-rva c =
    let rs = c.args.self.now.ranges in
    let l = c.loop-low in
    let middle = l.low + (l.high - l.low) / 2 in
    let end : c.range-range.result.end ≡ (get_or rs middle no_range).end = ap
    (λ (r : RuntimeFunction). r.end) c.range-range.ensures in
    let le = c.if-range-rva.true in
    let w = l.invariant.within in
    let inside : middle < length rs = omega arith in
    record {
      within = l.invariant.within;
      ordered = omega arith;
      below = λ k lt. elim (cases_lt k middle) [
        | inl before ↦ (let ends = range_ends_below rs c.requires k middle before inside in
            let some = range_not_empty rs c.requires middle inside in omega arith)
        | inr after ↦ (let e : k ≡ middle = omega arith in
            let same = ap (λ n. (get_or rs n no_range).end) e in omega arith)
      ];
      above = l.invariant.above;
    }

pub loop-low-preserved : goal.loop-low-preserved
loop-low-preserved c =
    let rs = c.args.self.now.ranges in
    let l = c.loop-low in
    let middle = l.low + (l.high - l.low) / 2 in
    let begin : c.range-range.result.begin ≡ (get_or rs middle no_range).begin = ap
    (λ (r : RuntimeFunction). r.begin) c.range-range.ensures in
    let under = c.if-rva-range.true in
    record {
      within = let w = l.invariant.within in omega arith;
      ordered = omega arith;
      below = l.invariant.below;
      above = λ lt. omega arith;
    }

pub returns-else-rva-range-clause-found : goal.returns-else-rva-range-clause-found
returns-else-rva-range-clause-found c =
    let rs = c.args.self.now.ranges in
    let l = c.loop-low in
    let middle = l.low + (l.high - l.low) / 2 in
    let begin : c.range-range.result.begin ≡ (get_or rs middle no_range).begin = ap
    (λ (r : RuntimeFunction). r.begin) c.range-range.ensures in
    let end : c.range-range.result.end ≡ (get_or rs middle no_range).end = ap
    (λ (r : RuntimeFunction). r.end) c.range-range.ensures in
    let from = c.if-rva-range.false in
    let under = c.if-range-rva.false in
    let inside : middle < length rs = (let w = l.invariant.within in omega arith) in
    sym (covers rs c.requires c.args.rva middle
    (λ j lt. (let ends = range_ends_below rs c.requires j middle lt inside in omega arith)) inside
    (omega arith) (omega arith))

pub returns-clause-found : goal.returns-clause-found
returns-clause-found c =
    let rs = c.args.self.now.ranges in
    let l = c.loop-low in
    let over = c.loop-low-test.false in
    let below : (j : ℕ) → j < l.high → (get_or rs j no_range).end
    ≤ c.args.rva = λ j lt. l.invariant.below j (omega arith) in
    elim (cases_lt l.high (length rs)) [
      | inl lt ↦ sym (covers_none_between rs c.requires c.args.rva l.high below lt
          (l.invariant.above lt))
      | inr le ↦ let w = l.invariant.within in
          sym (covers_none_past rs c.requires c.args.rva l.high below (omega arith))
    ]
