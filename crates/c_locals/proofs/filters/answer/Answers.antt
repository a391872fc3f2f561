use Rattle.c_locals.specs.Words.{environment, filter_resolved_at, expression, start}
use Rattle.c_locals.proofs.filters.answer.Goals as goal
use Rattle.c_locals.proofs.ValueRules.{ruled_at}
use Rattle.c_resolved.specs.Statements as definitions

pub returns : goal.returns
returns c =
    let x = expression c.args.e.now in
    ruled_at c.args.faults.now _ _ _
    (filter_resolved_at (environment c.args.env.now c.args.names.now.around)
    c.args.names.now.block x) c.to_answer.result definitions.to_answer c.start.result
    (start x) c.start.ensures c.in_ok-found.ensures.found c.in_ok-found.ensures.faults
    c.to_answer.ensures
