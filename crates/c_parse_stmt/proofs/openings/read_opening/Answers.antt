use Rattle.c_parse_stmt.proofs.ForHeads.{evaluation_alone}
use Rattle.c_parse_stmt.proofs.Sequences.{placed_so}
use Rattle.c_parse_stmt.proofs.openings.read_opening.Goals as goal

pub returns-in-None-clause-refused : goal.returns-in-None-clause-refused
returns-in-None-clause-refused c =
    placed_so c.evaluate.result _ _ _ _ c.args.text.now c.args.tokens.now c.args.tokens.now
    (evaluation_alone c.args.room c.args.left c.args.text.now c.args.tokens.now
    c.in_default.ensures.none c.in-None.ensures.none)
    c.evaluate.ensures.refused
