use Rattle.std.proofs.Common.{◌≤◌, ◌<◌, arith}
use Rattle.std.proofs.lemmas.Bool.Decides.{nat_tests}
use Rattle.c_parse_stmt.proofs.Continuing.{goes_call, goes_step, stops_after, no_call, deep_after}
use Rattle.c_parse_stmt.proofs.filters.continues_after.Goals as goal

pub returns-in-Identifier-clause-some : goal.returns-in-Identifier-clause-some
returns-in-Identifier-clause-some c = λ h.
    let e = c.follows-level.ensures in
    goes_call c.args.opened c.args.closed c.args.atom c.args.tokens.now c.requires.fewer
    c.requires.most c.if-closed-eq0.true c.in-Identifier.is (omega arith)

pub returns-in_default-clause-none : goal.returns-in_default-clause-none
returns-in_default-clause-none c = λ h.
    let e = c.follows-level.ensures in
    no_call c.args.opened c.args.closed c.args.atom c.args.tokens.now c.requires.fewer (omega arith)
    (λ z i. c.in_default.not-Identifier i)

pub returns-else-closed-eq0-clause-none : goal.returns-else-closed-eq0-clause-none
returns-else-closed-eq0-clause-none c = λ h.
    let e = c.follows-level.ensures in
    let k = c.if-closed-eq0.false in
    no_call c.args.opened c.args.closed c.args.atom c.args.tokens.now c.requires.fewer (omega arith)
    (λ z i. absurd (omega arith))

pub returns-then-level-le-COMMA-clause-some : goal.returns-then-level-le-COMMA-clause-some
returns-then-level-le-COMMA-clause-some c = λ h.
    let e = c.follows-level.ensures in
    let k : c.args.opened < 65 = grind (arith, nat_tests) in
    goes_step c.args.opened c.args.closed c.args.atom c.args.tokens.now c.requires.fewer k
    (omega arith) (omega arith)

pub returns-then-level-le-COMMA-clause-none : goal.returns-then-level-le-COMMA-clause-none
returns-then-level-le-COMMA-clause-none c = λ h.
    let e = c.follows-level.ensures in
    let k : 65 ≤ c.args.opened = grind (arith, nat_tests) in
    deep_after c.args.opened c.args.closed c.args.atom c.args.tokens.now c.requires.fewer k
    (omega arith) (omega arith)

pub returns-else-level-le-COMMA-clause-none : goal.returns-else-level-le-COMMA-clause-none
returns-else-level-le-COMMA-clause-none c = λ h.
    let e = c.follows-level.ensures in
    stops_after c.args.opened c.args.closed c.args.atom c.args.tokens.now c.requires.fewer
    c.requires.unclosed (omega arith)
