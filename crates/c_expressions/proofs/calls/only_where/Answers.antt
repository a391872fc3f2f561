-- only_where
use Rattle.std.specs.Prelude.{option_map}
use Rattle.c_expressions.proofs.Ruled.{refused_kept}
use Rattle.c_expressions.proofs.calls.only_where.Goals as goal
use Rattle.c_expressions.specs.Words.{least_of, typed_node}

pub returns-clause-faults : goal.returns-clause-faults
returns-clause-faults c = λ first fs p.
    refused_kept first (least_of c.args.faults.now) (least_of c.add.new.self) c.args.allowed
    c.args.at c.args.fault fs (record { found = option_map typed_node c.args.found; faults = fs })
    c.if-allowed.false p c.add.ensures
