use Rattle.std.proofs.Common.{length, ap, arith}
use Rattle.std.proofs.lemmas.Result.{err_from_is_err_and}
use Rattle.c_parse.specs.Words.{global, NoPunctuator, APunctuator, NoGlobal, NoGlobals, HasGlobals}
use Rattle.c_lex.specs.declared.punctuator.Punctuator.TheVariants as punctuators
use Rattle.c_parse.proofs.Refusing.{placed_in}
use Rattle.c_syntax.proofs.Shorter as shorter
use Rattle.c_parse.proofs.Declarations.{begins, next, ends, ends_at, in_first, in_next, in_end}
use Rattle.c_parse.proofs.globals.globals.Goals as goal

pub returns-in_err-first-clause-refused : goal.returns-in_err-first-clause-refused
returns-in_err-first-clause-refused c =
    let p = err_from_is_err_and c.from_residual.result c.from_residual.ensures.1 in
    rw (p.1, p.2) (placed_in c.in_err-first.field-0.0 (NoGlobal c.args.base c.args.bytes)
    (HasGlobals c.args.base c.args.bytes) (NoGlobals c.args.base c.args.bytes)
    (HasGlobals c.args.base c.args.bytes) c.args.text.now c.args.tokens.now c.args.tokens.now
    (in_first c.args.text.now c.args.base c.args.bytes c.args.tokens.now)
    c.in_err-first.ensures.refused)

pub loop-following-init : goal.loop-following-init
loop-following-init c =
    let k = c.in_ok-first in
    rw (c.in_ok-push.ensures.items, c.new-found.ensures.items) (
      begins c.args.text.now c.args.base c.args.bytes k.end c.args.tokens.now k.rest.now k.first
          k.ensures.found k.ensures.stops k.ensures.end,
      k.ensures.low,
    )

pub returns-in_err-next-clause-refused : goal.returns-in_err-next-clause-refused
returns-in_err-next-clause-refused c =
    let r = c.from_residual-in_err-next in
    let p = err_from_is_err_and r.result r.ensures.1 in
    let s = c.loop-following in
    rw (p.1, p.2) (placed_in c.in_err-next.field-0.0 (NoGlobal c.args.base s.end)
    (HasGlobals c.args.base s.end) (NoGlobals c.args.base c.args.bytes)
    (HasGlobals c.args.base c.args.bytes) c.args.text.now c.in-Some.following.now
    c.args.tokens.now (in_next c.args.text.now c.args.base c.args.bytes s.end c.args.tokens.now
    s.rest.now c.in-Some.following.now s.found.items s.invariant.0 c.in-Some.ensures.found)
    c.in_err-next.ensures.refused)

pub loop-following-preserved : goal.loop-following-preserved
loop-following-preserved c =
    let s = c.loop-following in
    let k = c.in_ok-next in
    rw c.in_ok-push-2.ensures.items (
      next c.args.text.now c.args.base c.args.bytes s.end k.further c.args.tokens.now s.rest.now
          c.in-Some.following.now k.after.now s.found.items k.next c.in-Some.ensures.found
          k.ensures.found k.ensures.stops k.ensures.end s.invariant.0,
      k.ensures.low,
    )

pub loop-following-smaller : goal.loop-following-smaller
loop-following-smaller c =
    let k = c.in_ok-next in
    let a = ap length c.in-Some.ensures.found.1.1 in
    let b = shorter.global (global k.next) c.in-Some.following.now k.after.now k.ensures.found in
    omega arith

pub returns-in_err-rest-clause-refused : goal.returns-in_err-rest-clause-refused
returns-in_err-rest-clause-refused c =
    let r = c.from_residual-in_err-rest in
    let p = err_from_is_err_and r.result r.ensures.1 in
    let s = c.loop-following in
    rw (p.1, p.2) (placed_in c.in_err-rest.field-0.0 (NoPunctuator punctuators.Semicolon)
    (APunctuator punctuators.Semicolon) (NoGlobals c.args.base c.args.bytes)
    (HasGlobals c.args.base c.args.bytes) c.args.text.now s.rest.now c.args.tokens.now
    (in_end c.args.text.now c.args.base c.args.bytes s.end c.args.tokens.now s.rest.now
    s.found.items s.invariant.0 s.invariant.1 c.in_default.ensures.none)
    c.in_err-rest.ensures.refused)

pub returns-clause-found : goal.returns-clause-found
returns-clause-found c =
    let s = c.loop-following in
    ends c.args.base c.args.bytes s.end c.args.tokens.now s.rest.now c.in_ok-rest.rest.now
    s.found.items s.invariant.0 c.in_ok-rest.ensures.found

pub returns-clause-end : goal.returns-clause-end
returns-clause-end c =
    let s = c.loop-following in
    ends_at c.args.base c.args.bytes s.end c.args.tokens.now s.rest.now s.found.items s.invariant.0
