use Rattle.c_parse_stmt.proofs.Heading.{do_too_deep}
use Rattle.c_parse_stmt.proofs.openings.do_head.Goals as goal

pub returns-then-room-eq0-clause-refused : goal.returns-then-room-eq0-clause-refused
returns-then-room-eq0-clause-refused c = λ ts k. do_too_deep c.args.room c.args.at c.args.left
    c.args.text.now ts c.args.tokens.now c.if-room-eq0.true k
