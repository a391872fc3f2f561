use Rattle.std.proofs.lemmas.Result.{err_from_is_err_and}
use Rattle.c_parse_stmt.proofs.Held.{declaration_item}
use Rattle.c_parse_stmt.proofs.Sequences.{placed}
use Rattle.c_parse_stmt.proofs.statements.declared.Goals as goal

pub returns-in_err-found-in-Some-clause-refused : goal.returns-in_err-found-in-Some-clause-refused
returns-in_err-found-in-Some-clause-refused c =
    let p = err_from_is_err_and c.from_residual.result c.from_residual.ensures.1 in
    rw (p.1, p.2) (placed c.in_err-found-in-Some.field-0.0 _ _ _ _ c.args.text.now c.args.tokens.now
    c.args.tokens.now (declaration_item c.args.room c.args.left c.in-Some.field-0.0
    c.args.text.now c.args.tokens.now c.in-Some.field-0.1.now c.in-Some.ensures.found)
    c.in_err-found-in-Some.ensures.refused)
