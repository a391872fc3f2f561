use Rattle.std.proofs.Common.{◌≡◌, ◌+◌, ◌-◌, sym, ap, ◌∙◌, arith}
use Rattle.pe_image.specs.NameRows.{NameSection, rows_from, rows_of, name_section}
use Rattle.pe_image.proofs.NameRows.{row_refused, row_read, rows_end, are_read, counted}
use Rattle.pe_image.proofs.name_table.NameRows.read.Goals as goal

pub returns-in_default-clause-refusal : goal.returns-in_default-clause-refusal
returns-in_default-clause-refusal c =
    let s : NameSection = record { address = c.address.result; raw = c.raw-raw.result.now } in
    let same : s ≡ name_section c.args.section.now =
    λ i. record { address = c.address.ensures.value i; raw = c.raw-raw.ensures i } in
    let n = c.u32_at-count.result in
    let index = c.loop-index.index in
    sym (ap rows_of same)
    ∙ counted s (omega (arith, c.if-raw-lt-NAME_COUNT_SIZE.false))
    ∙ ap (λ n. rows_from s n 0 0) (sym c.u32_at-count.ensures)
    ∙ sym c.loop-index.invariant.1
    ∙ row_refused s c.loop-index.invariant.0 index c.loop-index.last (n - index) (n - (index + 1))
    (omega (arith, c.loop-index-test.true)) (sym c.in_default.ensures)

pub loop-index-preserved : goal.loop-index-preserved
loop-index-preserved c =
    let s : NameSection = record { address = c.address.result; raw = c.raw-raw.result.now } in
    let n = c.u32_at-count.result in
    let index = c.loop-index.index in
    let next = row_read s c.loop-index.invariant.0 index c.loop-index.last (n - index)
    (n - (index + 1)) c.in-Some.end (omega (arith, c.loop-index-test.true))
    (sym c.in-Some.ensures) in
    (next.0, sym next.1 ∙ c.loop-index.invariant.1)

pub invariant_of-result : goal.invariant_of-result
invariant_of-result c =
    let s : NameSection = record { address = c.address.result; raw = c.raw-raw.result.now } in
    let n = c.u32_at-count.result in
    let index = c.loop-index.index in
    are_read (rows_from s n 0 0) c.loop-index.invariant.0
    (sym (rows_end s c.loop-index.invariant.0 index c.loop-index.last (n - index)
    (omega (arith, c.loop-index-test.false))) ∙ c.loop-index.invariant.1)

pub returns-clause-rows : goal.returns-clause-rows
returns-clause-rows c =
    let s : NameSection = record { address = c.address.result; raw = c.raw-raw.result.now } in
    let same : s ≡ name_section c.args.section.now =
    λ i. record { address = c.address.ensures.value i; raw = c.raw-raw.ensures i } in
    let n = c.u32_at-count.result in
    let index = c.loop-index.index in
    sym (ap rows_of same)
    ∙ counted s (omega (arith, c.if-raw-lt-NAME_COUNT_SIZE.false))
    ∙ ap (λ n. rows_from s n 0 0) (sym c.u32_at-count.ensures)
    ∙ are_read (rows_from s n 0 0) c.loop-index.invariant.0
    (sym (rows_end s c.loop-index.invariant.0 index c.loop-index.last (n - index)
    (omega (arith, c.loop-index-test.false))) ∙ c.loop-index.invariant.1)
