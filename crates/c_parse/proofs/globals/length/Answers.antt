use Rattle.std.proofs.lemmas.Result.{err_from_is_err_and}
use Rattle.c_parse.specs.Words.{NoneBracketed, HasBracketed, NoLength, HasLength}
use Rattle.c_parse.proofs.Refusing.{placed_in}
use Rattle.c_parse_stmt.proofs.ArrayEnds.{no_room}
use Rattle.c_parse.proofs.Lengths.{in_bracketed}
use Rattle.c_parse.proofs.Declarators.{not_scalar, scalar}
use Rattle.c_parse.proofs.globals.length.Goals as goal

pub returns-in_err-stop-in-None-clause-refused : goal.returns-in_err-stop-in-None-clause-refused
returns-in_err-stop-in-None-clause-refused c =
    let r = c.from_residual-in_err-stop-in-None in
    let p = err_from_is_err_and r.result r.ensures.1 in
    rw (p.1, p.2, c.in_err-stop-in-None.ensures.refused)
    (not_scalar c.args.text.now c.args.base c.args.pointers c.args.bytes c.args.tokens.now
    c.requires c.in-None.ensures.none c.in_err-stop-in-None.ensures.continues)

pub returns-in_err-length-in-Some-clause-refused : goal.returns-in_err-length-in-Some-clause-refused
returns-in_err-length-in-Some-clause-refused c =
    let p = err_from_is_err_and c.from_residual.result c.from_residual.ensures.1 in
    let s = c.in-Some in
    rw (p.1, p.2) (placed_in c.in_err-length-in-Some.field-0.0
    (NoneBracketed c.args.base c.args.pointers c.args.bytes)
    (HasBracketed c.args.base c.args.pointers c.args.bytes)
    (NoLength c.args.base c.args.pointers c.args.bytes)
    (HasLength c.args.base c.args.pointers c.args.bytes) c.args.text.now s.inner.now
    c.args.tokens.now (in_bracketed c.args.text.now c.args.base c.args.pointers c.args.bytes
    c.args.tokens.now s.inner.now s.ensures.found) c.in_err-length-in-Some.ensures.refused)

pub returns-in-None-end_of-clause-refused : goal.returns-in-None-end_of-clause-refused
returns-in-None-end_of-clause-refused c =
    scalar c.no_room.result c.args.text.now c.args.base c.args.pointers c.args.bytes
    c.args.tokens.now c.requires c.in-None.ensures.none
    (no_room 1048576 c.args.base c.args.pointers c.args.bytes c.size_of.result 1
    c.size_of.ensures.size c.in-None-end_of.ensures.none) c.no_room.ensures
