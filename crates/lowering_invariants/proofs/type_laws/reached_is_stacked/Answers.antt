use Rattle.lowering_invariants.proofs.Reached as lemma
use Rattle.lowering_invariants.proofs.type_laws.reached_is_stacked.Goals as goal

pub returns : goal.returns
returns c = record { stacked = lemma.is_stacked }
