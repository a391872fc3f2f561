use Rattle.std.proofs.Common.{◌∙◌, arith}
use Rattle.pe_image.proofs.NameRows.{table_known}
use Rattle.pe_image.proofs.name_table.NameRows.range.Goals as goal

pub range-requires : goal.range-requires
range-requires c =
    let known = table_known c.self.inside.section c.self.inside.count c.args.self.now
    c.self.invariant c.self.view_is in
    (known.row c.args.index (omega (arith, c.requires, known.count))).stored

pub returns-clause-begin : goal.returns-clause-begin
returns-clause-begin c =
    let known = table_known c.self.inside.section c.self.inside.count c.args.self.now
    c.self.invariant c.self.view_is in
    c.range.ensures.begin ∙ (known.row c.args.index (omega (arith, c.requires, known.count))).begin

pub returns-clause-end : goal.returns-clause-end
returns-clause-end c =
    let known = table_known c.self.inside.section c.self.inside.count c.args.self.now
    c.self.invariant c.self.view_is in
    c.range.ensures.end ∙ (known.row c.args.index (omega (arith, c.requires, known.count))).end

pub returns-clause-number : goal.returns-clause-number
returns-clause-number c =
    let known = table_known c.self.inside.section c.self.inside.count c.args.self.now
    c.self.invariant c.self.view_is in
    c.range.ensures.number
    ∙ (known.row c.args.index (omega (arith, c.requires, known.count))).number
