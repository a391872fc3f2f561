use Rattle.std.proofs.Common.{sym, ◌∙◌, arith}
use Rattle.pe_image.proofs.NameRows.{table_known, first_named, unnamed_number}
use Rattle.pe_image.proofs.name_table.NameRows.first_name.Goals as goal

pub range-requires : goal.range-requires
range-requires c =
    let known = table_known c.self.inside.section c.self.inside.count c.args.self.now
    c.self.invariant c.self.view_is in
    omega (arith, known.count, c.loop-index-test.true)

pub name-requires : goal.name-requires
name-requires c =
    let known = table_known c.self.inside.section c.self.inside.count c.args.self.now
    c.self.invariant c.self.view_is in
    omega (arith, known.count, c.loop-index-test.true)

pub returns-then-range-number : goal.returns-then-range-number
returns-then-range-number c =
    let known = table_known c.self.inside.section c.self.inside.count c.args.self.now
    c.self.invariant c.self.view_is in
    c.name.ensures
    ∙ sym (first_named c.args.number c.args.self.now c.loop-index.index c.loop-index.invariant
    (omega (arith, known.count, c.loop-index-test.true))
    (sym c.range.ensures.number ∙ c.if-range-number.true))

pub returns : goal.returns
returns c =
    let known = table_known c.self.inside.section c.self.inside.count c.args.self.now
    c.self.invariant c.self.view_is in
    sym (unnamed_number c.args.number c.args.self.now (λ j lt. c.loop-index.invariant j
    (omega (arith, known.count, c.loop-index-test.false))))
