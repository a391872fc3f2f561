use Rattle.std.proofs.Common.{◌∙◌, sym, ap}
use Rattle.std.specs.Prelude.{option_map}
use Rattle.c_expressions.proofs.Kept.{kept_more}
use Rattle.c_expressions.proofs.rules.ruled.Goals as goal
use Rattle.c_expressions.specs.Words.{least_of, kept, TypeClash, ruled, fault_at, typed_node}

pub returns-in-None-clause-faults : goal.returns-in-None-clause-faults
returns-in-None-clause-faults c = λ first fs e.
    kept_more first (least_of c.args.faults.now) (least_of c.add.new.self) fs
    (fault_at c.args.at TypeClash) e c.add.ensures
    ∙ ap (λ o. kept first (ruled c.args.at TypeClash fs (option_map typed_node o)).faults)
    (sym c.in-None.is)
