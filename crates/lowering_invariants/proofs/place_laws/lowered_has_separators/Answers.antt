use Rattle.lowering_invariants.proofs.SeparatorCounts.Separators as lemma
use Rattle.lowering_invariants.proofs.place_laws.lowered_has_separators.Goals as goal

pub returns : goal.returns
returns c = record { separators = lemma.lowered_has_separators }
