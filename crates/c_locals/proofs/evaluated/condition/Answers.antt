use Rattle.c_locals.specs.Words.{environment, resolved_at, expression}
use Rattle.c_locals.proofs.evaluated.condition.Goals as goal
use Rattle.c_locals.proofs.ValueRules.{ruled}
use Rattle.c_resolved.specs.Statements as definitions

pub returns : goal.returns
returns c = ruled c.args.faults.now _ _ _
    (resolved_at (environment c.args.env.now c.args.names.now.around)
    c.args.names.now.block (expression c.args.e.now)) c.condition.result
    (definitions.condition c.args.at) c.in_ok-found.ensures.found c.in_ok-found.ensures.faults
    c.condition.ensures
