use Rattle.lowering_invariants.proofs.Labels.UnwindLabels as lemma
use Rattle.lowering_invariants.proofs.place_laws.lowered_stays_inside.Goals as goal

pub returns : goal.returns
returns c = record { inside = lemma.lowered_stays_inside }
