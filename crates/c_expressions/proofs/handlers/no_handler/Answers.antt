use Rattle.std.proofs.Common.{◌∙◌, ap, sym}
use Rattle.std.specs.Prelude.{option_map}
use Rattle.c_expressions.proofs.Kept.{kept_more}
use Rattle.c_expressions.proofs.handlers.no_handler.Goals as goal
use Rattle.c_expressions.specs.Words.{least_of, kept, fault_at, TypeClash, typed_node}
use Rattle.c_resolved.specs.Expressions as definitions

pub returns-in-Some : goal.returns-in-Some
returns-in-Some c = λ first fs p.
    kept_more first (least_of c.args.faults.now) (least_of c.add.new.self) fs
    (fault_at c.args.at TypeClash) p c.add.ensures
    ∙ ap (λ o. kept first (definitions.no_handler c.args.at (record {
      found = option_map typed_node o;
      faults = fs;
    })).faults) (sym c.in-Some.is)
