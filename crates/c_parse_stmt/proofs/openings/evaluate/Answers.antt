use Rattle.std.proofs.lemmas.Result.{err_from_is_err_and}
use Rattle.c_parse_stmt.proofs.ForHeads.{evaluation}
use Rattle.c_parse_stmt.proofs.Sequences.{placed}
use Rattle.c_parse_stmt.proofs.openings.evaluate.Goals as goal

pub returns-in_err-expr-clause-refused : goal.returns-in_err-expr-clause-refused
returns-in_err-expr-clause-refused c =
    let p = err_from_is_err_and c.from_residual.result c.from_residual.ensures.1 in
    rw (p.1, p.2) (placed c.in_err-expr.field-0.0 _ _ _ _ c.args.text.now c.args.tokens.now
    c.args.tokens.now (evaluation c.args.room c.args.left c.args.text.now c.args.tokens.now)
    c.in_err-expr.ensures.refused)
