use Rattle.lowering_invariants.proofs.Same as lemma
use Rattle.lowering_invariants.proofs.type_laws.alike_is_same.Goals as goal

pub returns : goal.returns
returns c = record { same = lemma.alike_is_same }
