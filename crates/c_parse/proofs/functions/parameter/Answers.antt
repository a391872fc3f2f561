use Rattle.c_parse.proofs.Parameters.{no_type, no_name}
use Rattle.c_parse.proofs.functions.parameter.Goals as goal

pub returns-in-None-name-clause-refused : goal.returns-in-None-name-clause-refused
returns-in-None-name-clause-refused c =
    let s = c.in-Some in
    rw c.unexpected.ensures
    (no_name c.args.text.now s.«of» c.args.tokens.now s.following.now s.ensures.found
    s.ensures.far c.in-None-name.ensures.none)

pub returns-in-None-clause-refused : goal.returns-in-None-clause-refused
returns-in-None-clause-refused c =
    rw c.unexpected-in-None.ensures
    (no_type c.args.text.now c.args.tokens.now c.in-None.ensures.none)
