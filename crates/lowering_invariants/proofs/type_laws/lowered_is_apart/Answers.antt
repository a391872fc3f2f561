use Rattle.lowering_invariants.proofs.Regions.ReturnRegions as lemma
use Rattle.lowering_invariants.proofs.type_laws.lowered_is_apart.Goals as goal

pub returns : goal.returns
returns c = record { apart = lemma.lowered_is_apart }
