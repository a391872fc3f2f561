use Rattle.lowering_invariants.proofs.Regions.CallRegions as lemma
use Rattle.lowering_invariants.proofs.place_laws.lowered_has_same_regions.Goals as goal

pub returns : goal.returns
returns c = record { same = lemma.has_same_regions }
