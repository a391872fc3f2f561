use Rattle.c_locals.proofs.Lemmas.{kept_more}
use Rattle.c_locals.specs.Words.{least_of, environment, resolved_at, fault_at, expression}
use Rattle.c_locals.proofs.evaluated.refused_value.Goals as goal

pub returns : goal.returns
returns c = kept_more (least_of c.args.faults.now) _ _
    (resolved_at (environment c.args.env.now c.args.names.now.around) c.args.names.now.block
    (expression c.args.e.now)).faults (fault_at c.args.at c.args.fault)
    c.in_ok-resolved_at.ensures.faults c.add.ensures
