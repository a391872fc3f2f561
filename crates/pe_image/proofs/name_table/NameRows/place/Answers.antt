use Rattle.std.proofs.Common.{◌≡◌, ◌+◌, ◌-◌, ◌/◌, ◌<◌, length, get_or, inl, inr, ap, sym, arith}
use Rattle.std.proofs.lemmas.Bool.{cases_lt}
use Rattle.pe_image.specs.NameRows.{no_row}
use Rattle.pe_image.proofs.NameRows.{table_known, ends_before, not_empty, one_holds, none_between}
use Rattle.pe_image.proofs.name_table.NameRows.place.Goals as goal

pub loop-low-init : goal.loop-low-init
loop-low-init c =
    let known = table_known c.self.inside.section c.self.inside.count c.args.self.now
    c.self.invariant c.self.view_is in
    let count = known.count in
    record {
      within = omega arith;
      ordered = omega arith;
      below = λ k lt. omega arith;
      above = λ lt. omega arith;
    }

pub loop-low-preserved-then-range-rva : goal.loop-low-preserved-then-range-rva
loop-low-preserved-then-range-rva c =
    let known = table_known c.self.inside.section c.self.inside.count c.args.self.now
    c.self.invariant c.self.view_is in
    let l = c.loop-low in
    let rows = c.args.self.now in
    let middle = l.low + (l.high - l.low) / 2 in
    let within = l.invariant.within in
    let end = c.range-range.ensures.end in
    let passed = c.if-range-rva.true in
    let inside : middle < length rows = omega arith in
    let some = not_empty 0 rows middle known.order inside in
    record {
      within = within;
      ordered = omega arith;
      below = λ k lt. elim (cases_lt k middle) [
        | inl low ↦ let rises = ends_before 0 rows k middle known.order low inside in omega arith
        | inr ge ↦ let same : k ≡ middle = omega arith in
            let at = ap (λ j. (get_or rows j no_row).end) same in omega arith
      ];
      above = l.invariant.above;
    }

pub loop-low-preserved : goal.loop-low-preserved
loop-low-preserved c =
    let l = c.loop-low in
    let begin = c.range-range.ensures.begin in
    let under = c.if-rva-range.true in
    let within = l.invariant.within in
    record {
      within = omega arith;
      ordered = omega arith;
      below = l.invariant.below;
      above = λ lt. omega arith;
    }

pub returns-else-rva-range-clause-row : goal.returns-else-rva-range-clause-row
returns-else-rva-range-clause-row c =
    let known = table_known c.self.inside.section c.self.inside.count c.args.self.now
    c.self.invariant c.self.view_is in
    let l = c.loop-low in
    let rows = c.args.self.now in
    let middle = l.low + (l.high - l.low) / 2 in
    let within = l.invariant.within in
    let inside : middle < length rows = omega arith in
    let begin = c.range-range.ensures.begin in
    let end = c.range-range.ensures.end in
    let low = c.if-rva-range.false in
    let high = c.if-range-rva.false in
    sym (one_holds c.args.rva 0 rows middle known.order inside (omega arith) (omega arith))

pub returns-clause-row : goal.returns-clause-row
returns-clause-row c =
    let known = table_known c.self.inside.section c.self.inside.count c.args.self.now
    c.self.invariant c.self.view_is in
    let l = c.loop-low in
    let over = c.loop-low-test.false in
    sym (none_between c.args.rva 0 c.args.self.now l.high known.order
    (λ j lt. l.invariant.below j (omega arith)) l.invariant.within l.invariant.above)
