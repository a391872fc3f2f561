use Rattle.std.proofs.Common.{◌≡◌, length}
use Rattle.c_lex.specs.Vocabulary.{is_other_than_line_feed, span}
use Rattle.c_lex.proofs.comment.after_line.Given as goal

abbrev pub invariant-loop-rest : goal.invariant-loop-rest
invariant-loop-rest l =
    (span is_other_than_line_feed l.rest).1 ≡ (span is_other_than_line_feed l.text).1

abbrev pub decreases-loop-rest : goal.decreases-loop-rest
decreases-loop-rest l = length l.rest
