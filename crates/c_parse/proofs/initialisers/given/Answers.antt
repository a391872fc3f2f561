use Rattle.std.proofs.lemmas.Result.{err_from_is_err_and}
use Rattle.c_parse.specs.Words.{NoConstant, HasConstant, NoConstants, HasConstants, NoneGiven, HasGiven}
use Rattle.c_parse.proofs.Refusing.{placed_in}
use Rattle.c_parse.proofs.Constants.{in_list, in_single}
use Rattle.c_parse.proofs.initialisers.given.Goals as goal

pub returns-in_err-constant-in-None-clause-refused :
    goal.returns-in_err-constant-in-None-clause-refused
returns-in_err-constant-in-None-clause-refused c =
    let r = c.from_residual-in_err-constant-in-None in
    let p = err_from_is_err_and r.result r.ensures.1 in
    rw (p.1, p.2) (placed_in c.in_err-constant-in-None.field-0.0 NoConstant HasConstant NoneGiven
    HasGiven c.args.text.now c.args.tokens.now c.args.tokens.now
    (in_single c.args.text.now c.args.tokens.now c.in-None.ensures.none)
    c.in_err-constant-in-None.ensures.refused)

pub returns-in_err-constants-in-Some-clause-refused :
    goal.returns-in_err-constants-in-Some-clause-refused
returns-in_err-constants-in-Some-clause-refused c =
    let p = err_from_is_err_and c.from_residual.result c.from_residual.ensures.1 in
    let s = c.in-Some in
    rw (p.1, p.2) (placed_in c.in_err-constants-in-Some.field-0.0 NoConstants HasConstants NoneGiven
    HasGiven c.args.text.now s.inner.now c.args.tokens.now
    (in_list c.args.text.now c.args.tokens.now s.inner.now s.at s.ensures.found)
    c.in_err-constants-in-Some.ensures.refused)
