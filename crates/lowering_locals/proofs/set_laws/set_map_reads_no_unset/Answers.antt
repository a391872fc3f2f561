use Rattle.lowering_locals.proofs.RunSets as lemma
use Rattle.lowering_locals.proofs.set_laws.set_map_reads_no_unset.Goals as goal

pub returns : goal.returns
returns c = record { reads = lemma.set_map_reads_no_unset }
