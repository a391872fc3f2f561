use Rattle.c_lex.proofs.FirstBytes.{line_found, comment_found, slash_found}
use Rattle.c_lex.proofs.word.slash.Goals as goal

pub returns-then-first-eq47 : goal.returns-then-first-eq47
returns-then-first-eq47 c =
    line_found c.args.text.now c.line.result.1.now c.line.result.0 c.in-len1-up.len_at_least
    c.if-first-eq47.true c.line.ensures

pub returns-then-first-eq42 : goal.returns-then-first-eq42
returns-then-first-eq42 c = comment_found c.args.text.now c.comment.result.1.now c.comment.result.0
    c.in-len1-up.len_at_least c.if-first-eq42.true c.comment.ensures

pub returns-else-first-eq42 : goal.returns-else-first-eq42
returns-else-first-eq42 c =
    slash_found c.args.text.now c.longest_punctuator-else-first-eq42.result.1.now
    c.longest_punctuator-else-first-eq42.result.0 c.if-first-eq47.false c.if-first-eq42.false
    c.longest_punctuator-else-first-eq42.ensures
