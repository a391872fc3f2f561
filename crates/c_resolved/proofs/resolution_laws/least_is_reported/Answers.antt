use Rattle.c_resolved.proofs.LeastFault as lemma
use Rattle.c_resolved.proofs.resolution_laws.least_is_reported.Goals as goal

pub returns : goal.returns
returns c = record { least = lemma.least_is_reported }
