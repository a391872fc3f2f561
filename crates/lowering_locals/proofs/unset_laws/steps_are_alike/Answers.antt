use Rattle.lowering_locals.proofs.Alike as lemma
use Rattle.lowering_locals.proofs.unset_laws.steps_are_alike.Goals as goal

pub returns : goal.returns
returns c = record { alike = lemma.steps_are_alike }
