use Rattle.lowering_invariants.proofs.ColdCode.ColdParts as lemma
use Rattle.lowering_invariants.proofs.place_laws.lowered_has_cold_parts.Goals as goal

pub returns : goal.returns
returns c = record { cold = lemma.lowered_has_cold_parts }
