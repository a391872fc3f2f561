use Rattle.c_parse.proofs.Parameters.{none_of, no_word, not_closed}
use Rattle.c_parse.proofs.functions.after_void.Goals as goal

pub returns-in-None-clause-none : goal.returns-in-None-clause-none
returns-in-None-clause-none c = no_word c.args.tokens.now c.in-None.ensures.none

pub returns-in-Some-clause-none : goal.returns-in-Some-clause-none
returns-in-Some-clause-none c =
    none_of c.after.result _ _
    (not_closed c.args.tokens.now c.in-Some.following.now (_, c.in-Some.ensures.found))
    c.after.ensures.none
