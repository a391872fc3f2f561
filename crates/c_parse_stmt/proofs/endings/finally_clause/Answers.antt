use Rattle.std.proofs.Common.{◌-◌, arith, refl}
use Rattle.std.proofs.lemmas.Result.{err_from_is_err_and}
use Rattle.c_parse_stmt.proofs.Guarding.{finally_too_many, finally_open}
use Rattle.c_parse_stmt.proofs.Sequences.{placed}
use Rattle.c_parse_stmt.proofs.Wholes.{left_of}
use Rattle.c_parse_stmt.proofs.endings.finally_clause.Goals as goal

pub returns-then-left-eq0-clause-refused : goal.returns-then-left-eq0-clause-refused
returns-then-left-eq0-clause-refused c =
    rw c.too_many_funclets.ensures (λ following k whole body ts g. finally_too_many c.args.room
    c.args.at whole c.args.left body c.args.text.now ts following c.args.tokens.now
    c.if-left-eq0.true g k)

pub returns-in_err-rest-clause-refused : goal.returns-in_err-rest-clause-refused
returns-in_err-rest-clause-refused c =
    let p = err_from_is_err_and c.from_residual.result c.from_residual.ensures.1 in
    rw (p.1, p.2) (λ following k whole body ts g. placed c.in_err-rest.field-0.0 _ _ _ _
    c.args.text.now c.args.tokens.now ts (finally_open c.args.room c.args.at whole c.args.left
    (left_of c.args.left.locals c.args.left.bytes (c.args.left.funclets - 1)) body
    c.args.text.now ts following c.args.tokens.now g k (omega arith) refl refl)
    c.in_err-rest.ensures.refused)
