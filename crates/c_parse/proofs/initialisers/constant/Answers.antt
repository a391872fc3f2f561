use Rattle.c_parse.proofs.Constants.{no_literal, neither}
use Rattle.c_parse.proofs.initialisers.constant.Goals as goal

pub returns-in-None-literal-clause-refused : goal.returns-in-None-literal-clause-refused
returns-in-None-literal-clause-refused c =
    rw c.unexpected.ensures
    (no_literal c.args.text.now c.in-Some.at c.args.tokens.now c.in-Some.following.now
    c.in-Some.ensures.found c.in-None-literal.ensures.none)

pub returns-in-None-literal-2-clause-refused : goal.returns-in-None-literal-2-clause-refused
returns-in-None-literal-2-clause-refused c =
    rw c.unexpected-in-None-literal-2.ensures
    (neither c.args.text.now c.args.tokens.now c.in-None.ensures.none
    c.in-None-literal-2.ensures.none)
