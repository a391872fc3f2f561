use Rattle.lowering_locals.proofs.ProgramSets as lemma
use Rattle.lowering_locals.proofs.scoped_laws.scoped_reads_no_unset.Goals as goal

pub returns : goal.returns
returns c = record { reads = lemma.scoped_reads_no_unset }
