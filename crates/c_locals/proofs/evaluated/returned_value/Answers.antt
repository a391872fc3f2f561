use Rattle.std.proofs.Common.{◌∙◌, sym}
use Rattle.c_locals.specs.Words.{environment, expression}
use Rattle.c_locals.proofs.evaluated.returned_value.Goals as goal
use Rattle.c_locals.proofs.ValueRules.{nothing_returned, value_returned}

pub returns-then-is_void : goal.returns-then-is_void
returns-then-is_void c = nothing_returned (environment c.args.env.now c.args.names.now.around)
    c.args.names.now.block c.args.at (expression c.args.e.now) c.args.faults.now _
    (sym c.is_void.ensures ∙ c.if-is_void.true) c.in_ok-refused_value.ensures

pub returns : goal.returns
returns c = value_returned (environment c.args.env.now c.args.names.now.around)
    c.args.names.now.block
    c.args.at (expression c.args.e.now) c.args.faults.now _ _
    (sym c.is_void.ensures ∙ c.if-is_void.false) c.in_ok-to_type.ensures
