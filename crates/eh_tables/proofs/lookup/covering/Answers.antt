use Rattle.std.proofs.Common.{◌≡◌, ℕ, ◌<◌, ◌≤◌, ◌+◌, ◌-◌, ◌*◌, ◌/◌, ◌^◌, length, get_or, inl, inr, sym, ap, ◌∙◌, arith}
use Rattle.std.proofs.lemmas.Bool.{cases_lt}
use Rattle.eh_tables.specs.Words.{RuntimeFunction, no_range}
use Rattle.eh_tables.proofs.Lookups.{ends_rise, ends_below, one_step, still_left, still_cheap, finds_none_past, finds_none_between, finds}
use Rattle.eh_tables.proofs.lookup.covering.Goals as goal

pub loop-low-preserved-then-range-rva : goal.loop-low-preserved-then-range-rva
loop-low-preserved-then-range-rva g c =
    let t = c.args.ranges.now in
    let l = c.loop-low in
    let middle = l.low + (l.high - l.low) / 2 in
    let end : c.range-range.result.end ≡ (get_or t.ranges middle no_range).end = ap
    (λ (r : RuntimeFunction). r.end) c.range-range.ensures.value in
    let more : 2 ^ (c.range-range.new.steps - c.args.steps.now)
    ≡ 2 * 2 ^ (l.steps - c.args.steps.now) = ap (λ n. 2 ^ (n - c.args.steps.now))
    c.range-range.ensures.counted ∙ one_step l.steps c.args.steps.now l.invariant.counted in
    let le = c.if-range-rva.true in
    record {
      within = l.invariant.within;
      ordered = omega arith;
      below = λ k lt. (let rises = ends_rise t c.requires k middle (omega arith)
          (let w = l.invariant.within in omega arith) in omega arith);
      above = l.invariant.above;
      counted = omega (arith, c.range-range.ensures.counted);
      left = still_left (2 ^ (l.steps - c.args.steps.now)) (l.high - l.low) (l.high - (middle + 1))
          _ _ more l.invariant.left (omega arith);
      cost = still_cheap (2 ^ (l.steps - c.args.steps.now)) (l.high - l.low) _ _ more (omega arith)
          l.invariant.left;
    }

pub loop-low-preserved : goal.loop-low-preserved
loop-low-preserved g c =
    let t = c.args.ranges.now in
    let l = c.loop-low in
    let middle = l.low + (l.high - l.low) / 2 in
    let begin : c.range-range.result.begin ≡ (get_or t.ranges middle no_range).begin = ap
    (λ (r : RuntimeFunction). r.begin) c.range-range.ensures.value in
    let more : 2 ^ (c.range-range.new.steps - c.args.steps.now)
    ≡ 2 * 2 ^ (l.steps - c.args.steps.now) = ap (λ n. 2 ^ (n - c.args.steps.now))
    c.range-range.ensures.counted ∙ one_step l.steps c.args.steps.now l.invariant.counted in
    let under = c.if-rva-range.true in
    record {
      within = let w = l.invariant.within in omega arith;
      ordered = omega arith;
      below = l.invariant.below;
      above = λ lt. omega arith;
      counted = omega (arith, c.range-range.ensures.counted);
      left = still_left (2 ^ (l.steps - c.args.steps.now)) (l.high - l.low) (middle - l.low) _ _
          more l.invariant.left (omega arith);
      cost = still_cheap (2 ^ (l.steps - c.args.steps.now)) (l.high - l.low) _ _ more (omega arith)
          l.invariant.left;
    }

pub returns-else-rva-range-clause-found : goal.returns-else-rva-range-clause-found
returns-else-rva-range-clause-found g c =
    let t = c.args.ranges.now in
    let l = c.loop-low in
    let middle = l.low + (l.high - l.low) / 2 in
    let begin : c.range-range.result.begin ≡ (get_or t.ranges middle no_range).begin = ap
    (λ (r : RuntimeFunction). r.begin) c.range-range.ensures.value in
    let end : c.range-range.result.end ≡ (get_or t.ranges middle no_range).end = ap
    (λ (r : RuntimeFunction). r.end) c.range-range.ensures.value in
    let from = c.if-rva-range.false in
    let under = c.if-range-rva.false in
    let inside : middle < length t.ranges = (let w = l.invariant.within in omega arith) in
    sym (finds t c.requires c.args.rva middle
    (λ j lt. (let ends = ends_below t c.requires j middle lt inside in omega arith)) inside
    (omega arith) (omega arith))

pub returns-else-rva-range-clause-cost : goal.returns-else-rva-range-clause-cost
returns-else-rva-range-clause-cost g c =
    let l = c.loop-low in
    let more : 2 ^ (c.range-range.new.steps - c.args.steps.now)
    ≡ 2 * 2 ^ (l.steps - c.args.steps.now) = ap (λ n. 2 ^ (n - c.args.steps.now))
    c.range-range.ensures.counted ∙ one_step l.steps c.args.steps.now l.invariant.counted in
    still_cheap (2 ^ (l.steps - c.args.steps.now)) (l.high - l.low) _ _ more (omega arith)
    l.invariant.left

pub returns-clause-found : goal.returns-clause-found
returns-clause-found g c =
    let t = c.args.ranges.now in
    let l = c.loop-low in
    let over = c.loop-low-test.false in
    let below : (j : ℕ) → j < l.high → (get_or t.ranges j no_range).end
    ≤ c.args.rva = λ j lt. l.invariant.below j (omega arith) in
    elim (cases_lt l.high (length t.ranges)) [
      | inl lt ↦ sym (finds_none_between t c.requires c.args.rva l.high below lt
          (l.invariant.above lt))
      | inr le ↦ let w = l.invariant.within in
          sym (finds_none_past t c.requires c.args.rva l.high below (omega arith))
    ]
