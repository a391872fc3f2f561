use Rattle.lowering_invariants.proofs.Places.Blind as lemma
use Rattle.lowering_invariants.proofs.place_laws.lowered_informs_filters.Goals as goal

pub returns : goal.returns
returns c = record { filters = lemma.lowered_informs_filters }
