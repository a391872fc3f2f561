use Rattle.std.proofs.Common.{length}
use Rattle.c_lex.proofs.Texts.{IsReadTo}
use Rattle.c_lex.proofs.lexing.lex.Given as goal

abbrev pub invariant-loop-word : goal.invariant-loop-word
invariant-loop-word l = IsReadTo l.text l.rest l.tokens.items

abbrev pub decreases-loop-word : goal.decreases-loop-word
decreases-loop-word l = length l.rest
