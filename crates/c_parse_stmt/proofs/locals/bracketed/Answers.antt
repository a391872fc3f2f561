use Rattle.std.proofs.Common.{◌≤◌, ◌-◌, arith}
use Rattle.std.specs.Prelude.{Some}
use Rattle.std.proofs.lemmas.Result.{err_from_is_err_and}
use Rattle.c_parse_stmt.specs.Words.{end_of_local, bytes_so_far}
use Rattle.c_parse_stmt.proofs.Lengths.{no_integer, too_long, in_close}
use Rattle.c_parse_stmt.proofs.Placing.{placed_so}
use Rattle.c_parse_stmt.proofs.ArrayEnds.{room, no_room}
use Rattle.c_parse_stmt.proofs.locals.bracketed.Goals as goal

pub returns-in_err-rest-in-Some-end_of-clause-refused :
    goal.returns-in_err-rest-in-Some-end_of-clause-refused
returns-in_err-rest-in-Some-end_of-clause-refused c =
    let r = c.from_residual in
    let p = err_from_is_err_and r.result r.ensures.1 in
    let s = c.in-Some in
    let low : end_of_local c.args.base c.args.pointers
    (Some (record { at = s.at; value = s.value })) (bytes_so_far c.args.bytes) ≤ 65536 =
    room 65536 c.args.base c.args.pointers (bytes_so_far c.args.bytes) c.size_of.result s.value
    c.in-Some-end_of.end c.size_of.ensures.size
    (rw c.saturating_sub-start.ensures at c.in-Some-end_of.ensures.found)
    c.in-Some-end_of.ensures.low in
    rw (p.1, p.2) (placed_so c.in_err-rest-in-Some-end_of.field-0.0 _ _ _ _ c.args.text.now _ _
    (in_close c.args.text.now c.args.base c.args.pointers (bytes_so_far c.args.bytes) s.value s.at
    c.args.tokens.now s.following.now s.ensures.found low)
    c.in_err-rest-in-Some-end_of.ensures.refused)

pub returns-in-None-clause-refused : goal.returns-in-None-clause-refused
returns-in-None-clause-refused c =
    rw c.unexpected.ensures (no_integer c.args.text.now c.args.base c.args.pointers
    (bytes_so_far c.args.bytes) c.args.tokens.now (omega arith) c.in-None.ensures.none)

pub returns-in-None-end_of-clause-refused : goal.returns-in-None-end_of-clause-refused
returns-in-None-end_of-clause-refused c =
    let s = c.in-Some in
    rw c.too_many_bytes.ensures (too_long c.args.text.now c.args.base c.args.pointers
    (bytes_so_far c.args.bytes) s.value s.at c.args.tokens.now s.following.now (omega arith)
    s.ensures.found (no_room 65536 c.args.base c.args.pointers (bytes_so_far c.args.bytes)
    c.size_of.result s.value c.size_of.ensures.size
    (rw c.saturating_sub-start.ensures at c.in-None-end_of.ensures.none)))
