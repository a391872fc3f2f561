use Rattle.c_parse_stmt.proofs.Guarding.{unguarded_fails}
use Rattle.c_parse_stmt.proofs.Sequences.{refused_so}
use Rattle.c_parse_stmt.proofs.endings.read_clause.Goals as goal

pub returns-in-Some-clause-refused : goal.returns-in-Some-clause-refused
returns-in-Some-clause-refused c = refused_so c.except_clause.result _ _
    (λ e h. h c.args.tokens.now c.in-Some.ensures.found) c.except_clause.ensures.refused

pub returns-in-Some-word-clause-refused : goal.returns-in-Some-word-clause-refused
returns-in-Some-word-clause-refused c = refused_so c.finally_clause.result _ _
    (λ e h. h c.args.tokens.now c.in-Some-word.ensures.found) c.finally_clause.ensures.refused

pub returns-in-None-clause-refused : goal.returns-in-None-clause-refused
returns-in-None-clause-refused c =
    rw c.unexpected.ensures (λ whole body ts g. unguarded_fails c.args.room whole c.args.left body
    c.args.text.now ts c.args.tokens.now g c.in_default.ensures.none c.in-None.ensures.none)
