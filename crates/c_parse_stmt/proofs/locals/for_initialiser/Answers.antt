use Rattle.std.proofs.lemmas.Result.{err_from_is_err_and}
use Rattle.c_parse_stmt.proofs.Placing.{placed_so}
use Rattle.c_parse_stmt.proofs.Specified.{no_declaration, no_optional}
use Rattle.c_parse_stmt.proofs.locals.for_initialiser.Goals as goal

pub returns-in_err-declaration-in-Some-clause-refused :
    goal.returns-in_err-declaration-in-Some-clause-refused
returns-in_err-declaration-in-Some-clause-refused c =
    let p = err_from_is_err_and c.from_residual.result c.from_residual.ensures.1 in
    let s = c.in-Some in
    rw (p.1, p.2) (placed_so c.in_err-declaration-in-Some.field-0.0 _ _ _ _ c.args.text.now _ _
    (no_declaration c.args.text.now c.args.left c.args.tokens.now s.field-0.1.now s.field-0.0
    s.ensures.found) c.in_err-declaration-in-Some.ensures.refused)

pub returns-in_err-expr-in-None-clause-refused : goal.returns-in_err-expr-in-None-clause-refused
returns-in_err-expr-in-None-clause-refused c =
    let r = c.from_residual-in_err-expr-in-None in
    let p = err_from_is_err_and r.result r.ensures.1 in
    rw (p.1, p.2) (placed_so c.in_err-expr-in-None.field-0.0 _ _ _ _ c.args.text.now _ _
    (no_optional c.args.text.now c.args.left c.args.tokens.now c.in-None.ensures.none)
    c.in_err-expr-in-None.ensures.refused)
