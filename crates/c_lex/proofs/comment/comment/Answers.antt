use Rattle.std.proofs.Common.{sym}
use Rattle.c_lex.proofs.CommentEnds.{comment_found, comment_open, at_its_end}
use Rattle.c_lex.proofs.comment.comment.Goals as goal

pub returns-in-Some : goal.returns-in-Some
returns-in-Some c = comment_found c.args.text.now c.in-Some.rest.now (sym c.in-Some.ensures)

pub returns-in-None : goal.returns-in-None
returns-in-None c = (
  c.args.text.now,
  rw (at_its_end c.args.text.now)
      (comment_open c.args.text.now (sym c.in-None.ensures)),
)
