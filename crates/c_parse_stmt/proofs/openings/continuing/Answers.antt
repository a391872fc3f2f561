use Rattle.std.proofs.lemmas.Result.{err_from_is_err_and}
use Rattle.c_parse_stmt.proofs.JumpEnds.{continue_end}
use Rattle.c_parse_stmt.proofs.Sequences.{placed}
use Rattle.c_parse_stmt.proofs.openings.continuing.Goals as goal

pub returns-in_err-rest-clause-refused : goal.returns-in_err-rest-clause-refused
returns-in_err-rest-clause-refused c =
    let p = err_from_is_err_and c.from_residual.result c.from_residual.ensures.1 in
    rw (p.1, p.2) (λ ts k. placed c.in_err-rest.field-0.0 _ _ _ _ c.args.text.now c.args.tokens.now
    ts (continue_end c.args.room c.args.at c.args.left c.args.text.now ts c.args.tokens.now k)
    c.in_err-rest.ensures.refused)
