use Rattle.std.proofs.Common.{◌∙◌, ap, sym}
use Rattle.std.proofs.lemmas.Result.{IfOk-weaker}
use Rattle.std.specs.Prelude.{option_map}
use Rattle.c_expressions.proofs.Ruled.{refused_kept}
use Rattle.c_expressions.proofs.places.unary.Goals as goal
use Rattle.c_expressions.specs.Words.{least_of, kept, names_of, NotLvalue, fault_at, rule_1, given_that, operand_is_lvalue, unary_of, expression, start, typed_node}

pub returns-clause-faults : goal.returns-clause-faults
returns-clause-faults c = λ first fs p.
    let s = names_of c.args.context.now in
    let e = expression c.args.operand.now in
    refused_kept first (least_of c.args.faults.now) (least_of c.add.new.self)
    (operand_is_lvalue c.args.operator s e) (start e) NotLvalue fs
    (rule_1 c.args.at (unary_of c.args.operator) fs (option_map typed_node c.args.a))
    (sym c.operand_is_lvalue.ensures ∙ c.if-operand_is_lvalue.false) p
    (c.add.ensures ∙ ap (λ k. kept (least_of c.args.faults.now) (fault_at k NotLvalue))
    c.start.ensures)

pub returns-then-operand_is_lvalue-clause-found : goal.returns-then-operand_is_lvalue-clause-found
returns-then-operand_is_lvalue-clause-found c =
    let e = expression c.args.operand.now in
    IfOk-weaker c.unary.result _ _
    (λ r h. λ fs. h fs ∙ ap (λ b. (given_that b (start e) NotLvalue fs
    (rule_1 c.args.at (unary_of c.args.operator) fs (option_map typed_node c.args.a))).found)
    (sym c.if-operand_is_lvalue.true ∙ c.operand_is_lvalue.ensures)) c.unary.ensures.found
