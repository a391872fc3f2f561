use Rattle.std.proofs.lemmas.Result.{err_from_is_err_and}
use Rattle.std.proofs.Common.{◌≤◌, Some}
use Rattle.c_lex.specs.declared.punctuator.Punctuator.TheVariants as punctuators
use Rattle.c_parse.specs.Words.{NoPunctuator, APunctuator, end_of, NoneBracketed, HasBracketed}
use Rattle.c_parse.proofs.Refusing.{placed_in}
use Rattle.c_parse_stmt.proofs.ArrayEnds.{room, no_room}
use Rattle.c_parse.proofs.Lengths.{no_integer, too_long, in_close, goes_further}
use Rattle.c_parse.proofs.globals.bracketed.Goals as goal

pub returns-in_err-rest-in-Some-end_of-clause-refused :
    goal.returns-in_err-rest-in-Some-end_of-clause-refused
returns-in_err-rest-in-Some-end_of-clause-refused c =
    let r = c.from_residual in
    let p = err_from_is_err_and r.result r.ensures.1 in
    let s = c.in-Some in
    let low : end_of c.args.base c.args.pointers (Some (record { at = s.at; value = s.value }))
    c.args.bytes ≤ 1048576 =
    room 1048576 c.args.base c.args.pointers c.args.bytes c.size_of.result s.value
    c.in-Some-end_of.end c.size_of.ensures.size c.in-Some-end_of.ensures.found
    c.in-Some-end_of.ensures.low in
    rw (p.1, p.2) (placed_in c.in_err-rest-in-Some-end_of.field-0.0
    (NoPunctuator punctuators.CloseBracket) (APunctuator punctuators.CloseBracket)
    (NoneBracketed c.args.base c.args.pointers c.args.bytes)
    (HasBracketed c.args.base c.args.pointers c.args.bytes) c.args.text.now s.following.now
    c.args.tokens.now (in_close c.args.text.now c.args.base c.args.pointers c.args.bytes s.value
    s.at c.args.tokens.now s.following.now s.ensures.found low)
    c.in_err-rest-in-Some-end_of.ensures.refused)

pub returns-in-None-clause-refused : goal.returns-in-None-clause-refused
returns-in-None-clause-refused c =
    rw c.unexpected.ensures
    (no_integer c.args.text.now c.args.base c.args.pointers c.args.bytes c.args.tokens.now
    c.requires c.in-None.ensures.none)

pub returns-in_err-stop-in-Some-end_of-clause-refused :
    goal.returns-in_err-stop-in-Some-end_of-clause-refused
returns-in_err-stop-in-Some-end_of-clause-refused c =
    let r = c.from_residual-in_err-stop-in-Some-end_of in
    let p = err_from_is_err_and r.result r.ensures.1 in
    let s = c.in-Some in
    let low : end_of c.args.base c.args.pointers (Some (record { at = s.at; value = s.value }))
    c.args.bytes ≤ 1048576 =
    room 1048576 c.args.base c.args.pointers c.args.bytes c.size_of.result s.value
    c.in-Some-end_of.end c.size_of.ensures.size c.in-Some-end_of.ensures.found
    c.in-Some-end_of.ensures.low in
    let k = c.in_ok-rest-in-Some-end_of in
    rw (p.1, p.2, c.in_err-stop-in-Some-end_of.ensures.refused)
    (goes_further c.args.text.now c.args.base c.args.pointers c.args.bytes s.value s.at
    c.args.tokens.now s.following.now k.rest.now s.ensures.found k.ensures.found low
    c.in_err-stop-in-Some-end_of.ensures.continues)

pub returns-in-None-end_of-clause-refused : goal.returns-in-None-end_of-clause-refused
returns-in-None-end_of-clause-refused c =
    let s = c.in-Some in
    rw c.too_many_bytes.ensures
    (too_long c.args.text.now c.args.base c.args.pointers c.args.bytes s.value s.at
    c.args.tokens.now s.following.now c.requires s.ensures.found
    (no_room 1048576 c.args.base c.args.pointers c.args.bytes c.size_of.result s.value
    c.size_of.ensures.size c.in-None-end_of.ensures.none))
