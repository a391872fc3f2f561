use Rattle.c_lex.specs.Vocabulary.{Blank, is_other_than_line_feed, span}
use Rattle.c_lex.proofs.Taking.{each_takes}
use Rattle.c_lex.proofs.comment.line.Goals as goal

pub returns : goal.returns
returns c = (
  (span is_other_than_line_feed c.args.text.now).0,
  rw c.after_line.ensures
      (each_takes is_other_than_line_feed (λ _. Blank) c.args.text.now),
)
