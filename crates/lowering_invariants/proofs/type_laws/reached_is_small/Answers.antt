use Rattle.lowering_invariants.proofs.Reached as lemma
use Rattle.lowering_invariants.proofs.type_laws.reached_is_small.Goals as goal

pub returns : goal.returns
returns c = record { small = lemma.is_small }
