use Rattle.std.proofs.Common.{arith}
use Rattle.std.proofs.lemmas.Result.{err_from_is_err_and}
use Rattle.c_lex.specs.declared.punctuator.Punctuator.TheVariants as punctuators
use Rattle.c_parse.specs.Words.{NoPunctuator, APunctuator, NoParameter, HasParameter, NoListed, HasListed}
use Rattle.c_parse.proofs.Refusing.{placed_in}
use Rattle.c_parse.proofs.Parameters.{begins, next, counted, ends, in_first, full, in_next, in_end}
use Rattle.c_parse.proofs.functions.listed.Goals as goal

pub returns-in_err-first-clause-refused : goal.returns-in_err-first-clause-refused
returns-in_err-first-clause-refused c =
    let p = err_from_is_err_and c.from_residual.result c.from_residual.ensures.1 in
    rw (p.1, p.2) (placed_in c.in_err-first.field-0.0 NoParameter HasParameter NoListed HasListed
    c.args.text.now c.args.tokens.now c.args.tokens.now
    (in_first c.args.text.now c.args.tokens.now) c.in_err-first.ensures.refused)

pub loop-following-init : goal.loop-following-init
loop-following-init c =
    let k = c.in_ok-first in
    rw (c.in_ok-push.ensures.items, c.new-found.ensures.items) (
      begins c.args.text.now c.args.tokens.now k.rest.now k.first k.ensures.found,
      omega arith,
      omega arith,
    )

pub returns-then-left-eq0-clause-refused : goal.returns-then-left-eq0-clause-refused
returns-then-left-eq0-clause-refused c =
    let s = c.loop-following in
    rw c.too_many_parameters.ensures
    (full c.args.text.now s.left c.args.tokens.now s.rest.now c.in-Some.following.now
    s.found.items s.invariant.0 s.invariant.1 c.if-left-eq0.true c.in-Some.ensures.found)

pub returns-in_err-next-clause-refused : goal.returns-in_err-next-clause-refused
returns-in_err-next-clause-refused c =
    let r = c.from_residual-in_err-next in
    let p = err_from_is_err_and r.result r.ensures.1 in
    let s = c.loop-following in
    rw (p.1, p.2) (placed_in c.in_err-next.field-0.0 NoParameter HasParameter NoListed HasListed
    c.args.text.now c.in-Some.following.now c.args.tokens.now
    (in_next c.args.text.now s.left c.args.tokens.now s.rest.now c.in-Some.following.now
    s.found.items s.invariant.0 s.invariant.1 c.if-left-eq0.false c.in-Some.ensures.found)
    c.in_err-next.ensures.refused)

pub loop-following-preserved : goal.loop-following-preserved
loop-following-preserved c =
    let s = c.loop-following in
    let k = c.in_ok-next in
    let n = counted s.found.items k.next in
    let i = s.invariant.1 in
    let low = s.invariant.2 in
    rw c.in_ok-push-2.ensures.items (
      next c.args.text.now c.args.tokens.now s.rest.now c.in-Some.following.now k.after.now
          s.found.items k.next c.in-Some.ensures.found k.ensures.found s.invariant.0,
      omega arith,
      omega arith,
    )

pub returns-in_err-end-clause-refused : goal.returns-in_err-end-clause-refused
returns-in_err-end-clause-refused c =
    let r = c.from_residual-in_err-end in
    let p = err_from_is_err_and r.result r.ensures.1 in
    let s = c.loop-following in
    rw (p.1, p.2) (placed_in c.in_err-end.field-0.0 (NoPunctuator punctuators.CloseParenthesis)
    (APunctuator punctuators.CloseParenthesis) NoListed HasListed c.args.text.now s.rest.now
    c.args.tokens.now (in_end c.args.text.now s.left c.args.tokens.now s.rest.now s.found.items
    s.invariant.0 s.invariant.1 s.invariant.2 c.in_default.ensures.none)
    c.in_err-end.ensures.refused)

pub returns-clause-found : goal.returns-clause-found
returns-clause-found c =
    let s = c.loop-following in
    ends c.args.tokens.now s.rest.now c.in_ok-end.end.now s.found.items s.invariant.0
    c.in_ok-end.ensures.found

pub returns-clause-few : goal.returns-clause-few
returns-clause-few c = let i = c.loop-following.invariant.1 in omega arith
