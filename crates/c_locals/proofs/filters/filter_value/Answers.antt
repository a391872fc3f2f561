use Rattle.std.proofs.Common.{◌∙◌, sym}
use Rattle.c_locals.specs.Words.{environment, expression}
use Rattle.c_locals.proofs.FilterKinds.{always_same, answered}
use Rattle.c_locals.proofs.filters.filter_value.Goals as goal

pub returns-then-always : goal.returns-then-always
returns-then-always c = always_same (environment c.args.env.now c.args.names.now.around)
    c.args.names.now.block
    (expression c.args.e.now) c.args.faults.now (sym c.always.ensures ∙ c.if-always.true)

pub returns : goal.returns
returns c = answered (environment c.args.env.now c.args.names.now.around) c.args.names.now.block
    (expression c.args.e.now) c.args.faults.now _ _ (sym c.always.ensures ∙ c.if-always.false)
    c.in_ok-answer.ensures
