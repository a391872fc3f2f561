use Rattle.std.proofs.Common.{◌∙◌, sym}
use Rattle.c_expressions.proofs.Names.{no_function}
use Rattle.c_expressions.proofs.scopes.built_in_function.Goals as goal

pub returns : goal.returns
returns c = no_function c.args.name.now (sym c.same.ensures ∙ c.if-same.false)
    (sym c.same-2.ensures ∙ c.if-same-2.false) (sym c.same-3.ensures ∙ c.if-same-3.false)
    (sym c.same-4.ensures ∙ c.if-same-4.false) (sym c.same-5.ensures ∙ c.if-same-5.false)
    (sym c.same-6.ensures ∙ c.if-same-6.false) (sym c.same-7.ensures ∙ c.if-same-7.false)
    (sym c.same-8.ensures ∙ c.if-same-8.false)
