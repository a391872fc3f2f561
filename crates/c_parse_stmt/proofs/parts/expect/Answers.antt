use Rattle.c_parse_stmt.proofs.Placing.{no_punctuator}
use Rattle.c_parse_stmt.proofs.parts.expect.Goals as goal

pub returns-in-None-clause-refused : goal.returns-in-None-clause-refused
returns-in-None-clause-refused c = rw c.unexpected.ensures
    (no_punctuator c.args.wanted c.args.text.now c.args.tokens.now c.in-None.ensures.none)
