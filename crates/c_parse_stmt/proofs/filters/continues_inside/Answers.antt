use Rattle.std.proofs.Common.{◌≤◌, ◌<◌, ◌+◌, refl, arith}
use Rattle.std.proofs.lemmas.Bool.Decides.{nat_tests}
use Rattle.c_parse_stmt.proofs.Lemmas.{base_front}
use Rattle.c_parse_stmt.proofs.Peeling.{no_type, too_deep, goes, goes_type, over_low}
use Rattle.c_parse_stmt.proofs.filters.continues_inside.Goals as goal

pub returns-then-begins_expression-clause-some : goal.returns-then-begins_expression-clause-some
returns-then-begins_expression-clause-some c = λ h.
    let e = c.first_over.ensures in
    let k : c.args.opened + c.first_over.result ≤ 65 = grind (arith, nat_tests) in
    goes c.args.opened c.args.tokens.now c.requires.some c.requires.most
    (c.if-begins_expression.ensures.some refl) (omega arith)

pub returns-then-begins_expression-clause-none : goal.returns-then-begins_expression-clause-none
returns-then-begins_expression-clause-none c = λ h.
    let e = c.first_over.ensures in
    let l = over_low c.args.tokens.now in
    let k : 65 < c.args.opened + c.first_over.result = grind (arith, nat_tests) in
    too_deep c.args.opened c.args.tokens.now (omega (arith, c.requires.most))
    (omega (arith, c.requires.most))

pub returns-in-Some-clause-some : goal.returns-in-Some-clause-some
returns-in-Some-clause-some c = λ h.
    let k : 2 ≤ c.args.opened = grind (arith, nat_tests) in
    goes_type c.args.opened c.args.tokens.now k c.requires.most
    (base_front c.in-Some.field-0.0 c.args.tokens.now c.in-Some.field-0.1.now
    c.in-Some.ensures.found)

pub returns-in-Some-clause-none : goal.returns-in-Some-clause-none
returns-in-Some-clause-none c = λ h.
    let k : c.args.opened < 2 = grind (arith, nat_tests) in
    no_type c.args.opened c.args.tokens.now c.requires.some
    (c.if-begins_expression.ensures.none refl) (λ l. absurd (omega arith))

pub returns-in-None-clause-none : goal.returns-in-None-clause-none
returns-in-None-clause-none c = λ h. no_type c.args.opened c.args.tokens.now c.requires.some
    (c.if-begins_expression.ensures.none refl) (λ l. c.in-None.ensures.none)
