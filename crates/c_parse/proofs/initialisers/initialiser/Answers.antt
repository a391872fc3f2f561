use Rattle.std.proofs.lemmas.Result.{err_from_is_err_and}
use Rattle.c_parse.specs.Words.{initialiser, NoneGiven, HasGiven, NoInitialiser, HasInitialiser}
use Rattle.c_parse.proofs.Refusing.{placed_in}
use Rattle.c_parse.proofs.Constants.{in_given, goes_further, not_assigned}
use Rattle.c_parse.proofs.initialisers.initialiser.Goals as goal

pub returns-in_err-given-in-Some-clause-refused : goal.returns-in_err-given-in-Some-clause-refused
returns-in_err-given-in-Some-clause-refused c =
    let p = err_from_is_err_and c.from_residual.result c.from_residual.ensures.1 in
    rw (p.1, p.2) (placed_in c.in_err-given-in-Some.field-0.0 NoneGiven HasGiven NoInitialiser
    HasInitialiser c.args.text.now c.in-Some.value.now c.args.tokens.now
    (in_given c.args.text.now c.args.tokens.now c.in-Some.value.now c.in-Some.ensures.found)
    c.in_err-given-in-Some.ensures.refused)

pub returns-in_err-stop-in-Some-clause-refused : goal.returns-in_err-stop-in-Some-clause-refused
returns-in_err-stop-in-Some-clause-refused c =
    let r = c.from_residual-in_err-stop-in-Some in
    let p = err_from_is_err_and r.result r.ensures.1 in
    let k = c.in_ok-given-in-Some in
    rw (p.1, p.2, c.in_err-stop-in-Some.ensures.refused)
    (goes_further c.args.text.now (initialiser k.given) c.args.tokens.now c.in-Some.value.now
    k.rest.now c.in-Some.ensures.found k.ensures.found c.in_err-stop-in-Some.ensures.continues)

pub returns-in_err-stop-in-None-clause-refused : goal.returns-in_err-stop-in-None-clause-refused
returns-in_err-stop-in-None-clause-refused c =
    let r = c.from_residual-in_err-stop-in-None in
    let p = err_from_is_err_and r.result r.ensures.1 in
    rw (p.1, p.2, c.in_err-stop-in-None.ensures.refused)
    (not_assigned c.args.text.now c.args.tokens.now c.in-None.ensures.none
    c.in_err-stop-in-None.ensures.continues)
