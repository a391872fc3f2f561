use Rattle.std.proofs.Common.{◌≡◌, length}
use Rattle.c_lex.specs.Vocabulary.{after_end}
use Rattle.c_lex.proofs.comment.after_end.Given as goal

abbrev pub invariant-loop-rest : goal.invariant-loop-rest
invariant-loop-rest l = after_end l.rest ≡ after_end l.text

abbrev pub decreases-loop-rest : goal.decreases-loop-rest
decreases-loop-rest l = length l.rest
