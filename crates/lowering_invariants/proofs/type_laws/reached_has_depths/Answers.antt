use Rattle.lowering_invariants.proofs.Reached as lemma
use Rattle.lowering_invariants.proofs.type_laws.reached_has_depths.Goals as goal

pub returns : goal.returns
returns c = record { depths = lemma.has_depths }
