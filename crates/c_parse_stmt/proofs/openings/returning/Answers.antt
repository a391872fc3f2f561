use Rattle.std.proofs.lemmas.Result.{err_from_is_err_and}
use Rattle.c_parse_stmt.proofs.JumpEnds.{return_value}
use Rattle.c_parse_stmt.proofs.Sequences.{placed}
use Rattle.c_parse_stmt.proofs.openings.returning.Goals as goal

pub returns-in_err-value-clause-refused : goal.returns-in_err-value-clause-refused
returns-in_err-value-clause-refused c =
    let p = err_from_is_err_and c.from_residual.result c.from_residual.ensures.1 in
    rw (p.1, p.2) (λ ts k. placed c.in_err-value.field-0.0 _ _ _ _ c.args.text.now c.args.tokens.now
    ts (return_value c.args.room c.args.at c.args.left c.args.text.now ts c.args.tokens.now k)
    c.in_err-value.ensures.refused)
