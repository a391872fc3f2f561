use Rattle.lowering_invariants.proofs.Reached as lemma
use Rattle.lowering_invariants.proofs.type_laws.reached_has_activations.Goals as goal

pub returns : goal.returns
returns c = record { activations = lemma.has_activations }
