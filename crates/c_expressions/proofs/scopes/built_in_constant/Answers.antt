use Rattle.std.proofs.Common.{◌∙◌, sym}
use Rattle.c_expressions.proofs.Names.{no_constant}
use Rattle.c_expressions.proofs.scopes.built_in_constant.Goals as goal

pub returns : goal.returns
returns c = no_constant c.args.name.now (sym c.same.ensures ∙ c.if-same.false)
    (sym c.same-2.ensures ∙ c.if-same-2.false) (sym c.same-3.ensures ∙ c.if-same-3.false)
