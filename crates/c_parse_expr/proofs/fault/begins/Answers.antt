use Rattle.std.proofs.Common.{sym, subst}
use Rattle.c_parse_expr.specs.Words.{NeverBegins}
use Rattle.c_parse_expr.proofs.Beginning.{never_end, first_is, first_none}
use Rattle.c_parse_expr.proofs.fault.begins.Goals as goal

pub returns-in-Some-clause-never : goal.returns-in-Some-clause-never
returns-in-Some-clause-never c = λ h.
    subst NeverBegins (sym (first_is c.args.tokens.now c.in-Some.token c.in-Some.field-0-1.now
    (sym c.in-Some.ensures))) (c.begins_with.ensures.never h c.in-Some.token.start
    c.in-Some.token.end c.in-Some.field-0-1.now)

pub returns-in-None-clause-never : goal.returns-in-None-clause-never
returns-in-None-clause-never c = λ h. subst NeverBegins
    (sym (first_none c.args.tokens.now (sym c.in-None.ensures))) never_end
