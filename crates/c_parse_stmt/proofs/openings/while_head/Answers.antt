use Rattle.std.proofs.Common.{arith}
use Rattle.std.proofs.lemmas.Result.{err_from_is_err_and}
use Rattle.c_parse_stmt.proofs.Heading.{while_too_deep, while_condition}
use Rattle.c_parse_stmt.proofs.Sequences.{placed}
use Rattle.c_parse_stmt.proofs.openings.while_head.Goals as goal

pub returns-then-room-eq0-clause-refused : goal.returns-then-room-eq0-clause-refused
returns-then-room-eq0-clause-refused c = λ ts k. while_too_deep c.args.room c.args.at c.args.left
    c.args.text.now ts c.args.tokens.now c.if-room-eq0.true k

pub returns-in_err-condition-clause-refused : goal.returns-in_err-condition-clause-refused
returns-in_err-condition-clause-refused c =
    let p = err_from_is_err_and c.from_residual.result c.from_residual.ensures.1 in
    rw (p.1, p.2) (λ ts k. placed c.in_err-condition.field-0.0 _ _ _ _ c.args.text.now
    c.args.tokens.now ts (while_condition c.args.room c.args.at c.args.left c.args.text.now ts
    c.args.tokens.now (omega arith) k) c.in_err-condition.ensures.refused)
