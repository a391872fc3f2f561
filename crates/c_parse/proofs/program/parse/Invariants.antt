use Rattle.std.proofs.Common.{length}
use Rattle.c_parse.proofs.Programs.{Read}
use Rattle.c_parse.proofs.program.parse.Given as goal

abbrev pub invariant-loop-rest : goal.invariant-loop-rest
invariant-loop-rest l = Read l.text l.tokens l.external_declarations.items l.rest l.counts

abbrev pub decreases-loop-rest : goal.decreases-loop-rest
decreases-loop-rest l = length l.rest
