use Rattle.std.proofs.Common.{arith}
use Rattle.std.proofs.lemmas.Result.{err_from_is_err_and}
use Rattle.c_parse_stmt.proofs.Placing.{placed_so}
use Rattle.c_parse_stmt.proofs.Declarators.{no_room, in_initialiser, operator_after}
use Rattle.c_parse_stmt.proofs.locals.initialiser.Goals as goal

pub returns-then-room-eq0-clause-refused : goal.returns-then-room-eq0-clause-refused
returns-then-room-eq0-clause-refused c = rw (c.too_deep.ensures, c.if-room-eq0.true)
    (no_room c.args.text.now c.args.tokens.now c.in-Some.value.now c.in-Some.ensures.found)

pub returns-in_err-parsed-in-Some-clause-refused : goal.returns-in_err-parsed-in-Some-clause-refused
returns-in_err-parsed-in-Some-clause-refused c =
    let p = err_from_is_err_and c.from_residual.result c.from_residual.ensures.1 in
    rw (p.1, p.2) (placed_so c.in_err-parsed-in-Some.field-0.0 _ _ _ _ c.args.text.now _ _
    (in_initialiser c.args.text.now c.args.room c.args.tokens.now c.in-Some.value.now
    c.in-Some.ensures.found (omega arith)) c.in_err-parsed-in-Some.ensures.refused)

pub returns-then-follows-le-ASSIGNMENT-clause-refused :
    goal.returns-then-follows-le-ASSIGNMENT-clause-refused
returns-then-follows-le-ASSIGNMENT-clause-refused c = rw c.unexpected.ensures
    (operator_after c.args.text.now c.args.room c.args.tokens.now (omega arith)
    c.in-None.ensures.none)
