use Rattle.std.proofs.Common.{◌∙◌, ap, sym}
use Rattle.std.specs.Prelude.{option_map}
use Rattle.c_expressions.proofs.Ruled.{refused_kept}
use Rattle.c_expressions.proofs.places.step.Goals as goal
use Rattle.c_expressions.specs.Words.{least_of, kept, names_of, NotLvalue, fault_at, rule_1, is_lvalue, incremented, expression, start, typed_node}

pub returns-clause-faults : goal.returns-clause-faults
returns-clause-faults c = λ first fs p.
    let s = names_of c.args.context.now in
    let e = expression c.args.operand.now in
    refused_kept first (least_of c.args.faults.now) (least_of c.add.new.self) (is_lvalue s e)
    (start e) NotLvalue fs (rule_1 c.args.at (incremented c.args.fixity c.args.operator) fs
    (option_map typed_node c.args.a))
    (sym c.is_lvalue.ensures ∙ c.if-is_lvalue.false) p
    (c.add.ensures ∙ ap (λ k. kept (least_of c.args.faults.now) (fault_at k NotLvalue))
    c.start.ensures)
