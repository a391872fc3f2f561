use Rattle.std.proofs.lemmas.Result.{err_from_is_err_and}
use Rattle.c_parse_stmt.specs.Words.{bytes_so_far}
use Rattle.c_parse_stmt.proofs.Lengths.{in_bracketed}
use Rattle.c_parse_stmt.proofs.Placing.{placed_so}
use Rattle.c_parse_stmt.proofs.locals.length.Goals as goal

pub returns-in_err-length-in-Some-clause-refused : goal.returns-in_err-length-in-Some-clause-refused
returns-in_err-length-in-Some-clause-refused c =
    let p = err_from_is_err_and c.from_residual.result c.from_residual.ensures.1 in
    rw (p.1, p.2) (placed_so c.in_err-length-in-Some.field-0.0 _ _ _ _ c.args.text.now _ _
    (in_bracketed c.args.text.now c.args.base c.args.pointers (bytes_so_far c.args.bytes)
    c.args.tokens.now c.in-Some.inner.now c.in-Some.ensures.found)
    c.in_err-length-in-Some.ensures.refused)
