use Rattle.c_parse.proofs.initialisers.punctuator_at.Goals as goal

pub returns-in-None-clause-none : goal.returns-in-None-clause-none
returns-in-None-clause-none c = λ at rest h. c.in-None.ensures.none c.args.wanted at rest h
