use Rattle.std.proofs.Common.{◌∙◌, arith}
use Rattle.pe_image.proofs.NameRows.{table_known}
use Rattle.pe_image.proofs.name_table.NameRows.name.Goals as goal

pub name-requires : goal.name-requires
name-requires c =
    let known = table_known c.self.inside.section c.self.inside.count c.args.self.now
    c.self.invariant c.self.view_is in
    (known.row c.args.index (omega (arith, known.count, c.requires))).stored

pub returns : goal.returns
returns c =
    let known = table_known c.self.inside.section c.self.inside.count c.args.self.now
    c.self.invariant c.self.view_is in
    c.name.ensures ∙ (known.row c.args.index (omega (arith, known.count, c.requires))).name
