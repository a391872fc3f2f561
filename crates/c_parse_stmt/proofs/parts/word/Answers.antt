use Rattle.c_parse_stmt.proofs.parts.word.Goals as goal

pub returns-in-None-clause-none : goal.returns-in-None-clause-none
returns-in-None-clause-none c = λ rest h. c.in-None.ensures.none c.args.wanted rest h
