use Rattle.std.proofs.Common.{◌≡◌, length}
use Rattle.c_lex.specs.Vocabulary.{is_identifier_byte, span}
use Rattle.c_lex.proofs.identifier.after_identifier.Given as goal

abbrev pub invariant-loop-rest : goal.invariant-loop-rest
invariant-loop-rest l = (span is_identifier_byte l.rest).1 ≡ (span is_identifier_byte l.text).1

abbrev pub decreases-loop-rest : goal.decreases-loop-rest
decreases-loop-rest l = length l.rest
