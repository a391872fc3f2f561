use Rattle.lowering_locals.proofs.ProgramSets as lemma
use Rattle.lowering_locals.proofs.scoped_laws.scoped_has_set_map.Goals as goal

pub returns : goal.returns
returns c = record { recorded = lemma.scoped_has_set_map }
