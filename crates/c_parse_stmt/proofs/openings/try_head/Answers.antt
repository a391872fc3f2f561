use Rattle.std.proofs.Common.{arith}
use Rattle.std.proofs.lemmas.Result.{err_from_is_err_and}
use Rattle.c_parse_stmt.proofs.Guarding.{try_open}
use Rattle.c_parse_stmt.proofs.Heading.{try_too_many}
use Rattle.c_parse_stmt.proofs.Sequences.{placed}
use Rattle.c_parse_stmt.proofs.openings.try_head.Goals as goal

pub returns-then-left-eq0-clause-refused : goal.returns-then-left-eq0-clause-refused
returns-then-left-eq0-clause-refused c =
    rw c.too_many_funclets.ensures (λ ts k. try_too_many c.args.room c.args.at c.args.left
    c.args.text.now ts c.args.tokens.now c.if-room-eq0.true c.if-left-eq0.true k)

pub returns-in_err-rest-clause-refused : goal.returns-in_err-rest-clause-refused
returns-in_err-rest-clause-refused c =
    let p = err_from_is_err_and c.from_residual.result c.from_residual.ensures.1 in
    rw (p.1, p.2) (λ ts k. placed c.in_err-rest.field-0.0 _ _ _ _ c.args.text.now c.args.tokens.now
    ts (try_open c.args.room c.args.at c.args.left c.args.text.now ts c.args.tokens.now
    (omega arith) k) c.in_err-rest.ensures.refused)
