use Rattle.lowering_invariants.proofs.SmallNumbers.Small as lemma
use Rattle.lowering_invariants.proofs.bound_laws.lowered_is_small.Goals as goal

pub returns : goal.returns
returns c = record { small = lemma.lowered_is_small }
