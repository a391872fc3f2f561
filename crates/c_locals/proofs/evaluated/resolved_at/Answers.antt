use Rattle.std.proofs.Common.{◌≡◌, IfOk, OnOk, subst}
use Rattle.std.specs.Prelude.{option_map}
use Rattle.c_locals.specs.Words.{least_of, kept, resolve_expression, expression, typed_node}
use Rattle.c_locals.proofs.evaluated.resolved_at.Goals as goal

pub returns-clause-found : goal.returns-clause-found
returns-clause-found c = subst (λ s. IfOk c.resolve.result
    (λ r. option_map typed_node r ≡ (resolve_expression s (expression c.args.e.now)).found))
    c.context.ensures c.resolve.ensures.found

pub returns-clause-faults : goal.returns-clause-faults
returns-clause-faults c = subst (λ s. OnOk c.resolve.result
    (least_of c.resolve.new.faults ≡ kept (least_of c.args.faults.now)
    (resolve_expression s (expression c.args.e.now)).faults)) c.context.ensures
    c.resolve.ensures.faults
