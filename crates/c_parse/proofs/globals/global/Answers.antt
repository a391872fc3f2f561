use Rattle.std.proofs.Common.{◌≤◌, ℕ, subst}
use Rattle.std.proofs.lemmas.Result.{err_from_is_err_and}
use Rattle.c_parse.specs.Words.{end_of, NoInitialiser, HasInitialiser, NoLength, HasLength, NoGlobal, HasGlobals}
use Rattle.c_parse.proofs.Refusing.{placed_in}
use Rattle.c_parse.proofs.Declarators.{no_name, in_length, in_initialiser}
use Rattle.c_parse.proofs.globals.global.Goals as goal

pub returns-in_err-length-in-Some-clause-refused : goal.returns-in_err-length-in-Some-clause-refused
returns-in_err-length-in-Some-clause-refused c =
    let p = err_from_is_err_and c.from_residual.result c.from_residual.ensures.1 in
    let s = c.stars-pointers in
    rw (p.1, p.2) (placed_in c.in_err-length-in-Some.field-0.0
    (NoLength c.args.base s.result.0 c.args.bytes)
    (HasLength c.args.base s.result.0 c.args.bytes) (NoGlobal c.args.base c.args.bytes)
    (HasGlobals c.args.base c.args.bytes) c.args.text.now c.in-Some.following.now
    c.args.tokens.now (in_length c.args.text.now c.args.base c.args.bytes s.result.0
    c.in-Some.name c.args.tokens.now s.result.1.now c.in-Some.following.now s.ensures.found
    c.in-Some.ensures.found) c.in_err-length-in-Some.ensures.refused)

pub returns-in_err-initialiser-in-Some-clause-refused :
    goal.returns-in_err-initialiser-in-Some-clause-refused
returns-in_err-initialiser-in-Some-clause-refused c =
    let r = c.from_residual-in_err-initialiser-in-Some in
    let p = err_from_is_err_and r.result r.ensures.1 in
    let s = c.stars-pointers in
    let k = c.in_ok-length-in-Some in
    let low : end_of c.args.base s.result.0 k.length c.args.bytes ≤ 1048576 =
    subst (λ (x : ℕ). x ≤ 1048576) k.ensures.end k.ensures.low in
    rw (p.1, p.2) (placed_in c.in_err-initialiser-in-Some.field-0.0 NoInitialiser HasInitialiser
    (NoGlobal c.args.base c.args.bytes) (HasGlobals c.args.base c.args.bytes) c.args.text.now
    k.following.now c.args.tokens.now
    (in_initialiser c.args.text.now c.args.base c.args.bytes s.result.0 c.in-Some.name k.length
    c.args.tokens.now s.result.1.now c.in-Some.following.now k.following.now s.ensures.found
    c.in-Some.ensures.found k.ensures.found k.ensures.stops low)
    c.in_err-initialiser-in-Some.ensures.refused)

pub returns-in-None-clause-refused : goal.returns-in-None-clause-refused
returns-in-None-clause-refused c =
    let s = c.stars-pointers in
    rw c.unexpected.ensures
    (no_name c.args.text.now c.args.base c.args.bytes s.result.0 c.args.tokens.now
    s.result.1.now c.requires s.ensures.found s.ensures.all c.in-None.ensures.none)
