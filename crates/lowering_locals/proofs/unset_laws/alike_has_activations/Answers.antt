use Rattle.lowering_locals.proofs.AlikeFacts as lemma
use Rattle.lowering_locals.proofs.unset_laws.alike_has_activations.Goals as goal

pub returns : goal.returns
returns c = record { activations = lemma.has_activations }
