use Rattle.c_locals.specs.Words.{environment, resolved_at, expression}
use Rattle.c_locals.proofs.evaluated.any.Goals as goal
use Rattle.c_locals.proofs.ValueRules.{ruled}
use Rattle.c_resolved.specs.Statements as definitions

pub returns : goal.returns
returns c = ruled c.args.faults.now _ _ _
    (resolved_at (environment c.args.env.now c.args.names.now.around)
    c.args.names.now.block (expression c.args.e.now)) c.any.result definitions.any
    c.in_ok-found.ensures.found c.in_ok-found.ensures.faults c.any.ensures
