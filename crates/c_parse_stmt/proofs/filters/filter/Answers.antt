use Rattle.std.proofs.Common.{sym, ◌∙◌, arith}
use Rattle.c_parse_stmt.specs.Words.{expression}
use Rattle.c_parse_stmt.proofs.Placing.{placed_so}
use Rattle.c_parse_stmt.proofs.Filtering.{in_filter, no_other, departs_not, decided}
use Rattle.c_parse_stmt.proofs.filters.filter.Goals as goal

pub returns-then-funclets-eq0-clause-refused : goal.returns-then-funclets-eq0-clause-refused
returns-then-funclets-eq0-clause-refused c =
    let k = c.in-Ok in
    let d = c.departure in
    let n = no_other c.args.text.now (expression k.filter) c.args.tokens.now k.rest.now
    k.ensures.found (sym c.accepts.ensures ∙ c.if-accepts.false) in
    rw (c.too_many_funclets.ensures, c.place.ensures, c.if-funclets-eq0.true)
    (decided d.result.1 (λ h. d.ensures.many h n)
    (λ h. absurd (departs_not c.args.text.now (expression k.filter) c.args.tokens.now k.rest.now
    d.result.0.now k.ensures.found k.ensures.low (d.ensures.none h n))))

pub returns-then-funclets-eq0-2-clause-refused : goal.returns-then-funclets-eq0-2-clause-refused
returns-then-funclets-eq0-2-clause-refused c = rw c.if-funclets-eq0-2.true
    (c.earlier.ensures c.in-Err.ensures.refused)

pub returns-else-funclets-eq0-2-clause-refused : goal.returns-else-funclets-eq0-2-clause-refused
returns-else-funclets-eq0-2-clause-refused c =
    placed_so c.in-Err.refusal _ _ _ _ c.args.text.now _ _
    (in_filter c.args.text.now c.args.funclets c.args.tokens.now
    (omega (arith, c.if-funclets-eq0-2.false))) c.in-Err.ensures.refused
