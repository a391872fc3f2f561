use Rattle.std.proofs.Common.{◌≤◌, ◌-◌, arith}
use Rattle.std.proofs.lemmas.Result.{err_from_is_err_and}
use Rattle.c_parse_stmt.specs.Words.{end_of_local, bytes_so_far}
use Rattle.c_parse_stmt.proofs.Placing.{placed_so}
use Rattle.c_parse_stmt.proofs.Declarators.{in_length, in_local, no_name}
use Rattle.c_parse_stmt.proofs.locals.local.Goals as goal

pub returns-in_err-length-in-Some-clause-refused : goal.returns-in_err-length-in-Some-clause-refused
returns-in_err-length-in-Some-clause-refused c =
    let p = err_from_is_err_and c.from_residual.result c.from_residual.ensures.1 in
    let s = c.stars-pointers in
    rw (p.1, p.2) (placed_so c.in_err-length-in-Some.field-0.0 _ _ _ _ c.args.text.now _ _
    (in_length c.args.text.now c.args.base (bytes_so_far c.args.bytes) c.args.room s.result.0
    c.in-Some.name c.args.tokens.now s.result.1.now c.in-Some.following.now s.ensures.found
    c.in-Some.ensures.found) c.in_err-length-in-Some.ensures.refused)

pub returns-in_err-initialiser-in-Some-clause-refused :
    goal.returns-in_err-initialiser-in-Some-clause-refused
returns-in_err-initialiser-in-Some-clause-refused c =
    let r = c.from_residual-in_err-initialiser-in-Some in
    let p = err_from_is_err_and r.result r.ensures.1 in
    let s = c.stars-pointers in
    let k = c.in_ok-length-in-Some in
    let e = k.ensures.end in
    let fits : end_of_local c.args.base s.result.0 k.length (bytes_so_far c.args.bytes) ≤ 65536 =
    omega arith in
    rw (p.1, p.2) (placed_so c.in_err-initialiser-in-Some.field-0.0 _ _ _ _ c.args.text.now _ _
    (in_local c.args.text.now c.args.base (bytes_so_far c.args.bytes) c.args.room s.result.0
    c.in-Some.name k.length c.args.tokens.now s.result.1.now c.in-Some.following.now
    k.following.now s.ensures.found c.in-Some.ensures.found k.ensures.found k.ensures.bare fits)
    c.in_err-initialiser-in-Some.ensures.refused)

pub returns-in-None-clause-refused : goal.returns-in-None-clause-refused
returns-in-None-clause-refused c =
    let s = c.stars-pointers in
    rw c.unexpected.ensures (no_name c.args.text.now c.args.base (bytes_so_far c.args.bytes)
    c.args.room s.result.0 c.args.tokens.now s.result.1.now (omega arith) s.ensures.found
    s.ensures.all c.in-None.ensures.none)
