use Rattle.c_parse.proofs.HeadsOfDeclarations.{no_base, no_name}
use Rattle.c_parse.proofs.program.head.Goals as goal

pub returns-in-None-name-clause-refused : goal.returns-in-None-name-clause-refused
returns-in-None-name-clause-refused c =
    let b = c.in-Some in
    let s = c.stars-pointers in
    rw c.unexpected.ensures
    (no_name c.args.text.now b.base s.result.0 c.args.tokens.now b.declarators.now
    s.result.1.now b.ensures.found b.ensures.far s.ensures.found s.ensures.all
    c.in-None-name.ensures.none)

pub returns-in-None-clause-refused : goal.returns-in-None-clause-refused
returns-in-None-clause-refused c =
    rw c.unexpected-in-None.ensures
    (no_base c.args.text.now c.args.tokens.now c.in-None.ensures.none)
