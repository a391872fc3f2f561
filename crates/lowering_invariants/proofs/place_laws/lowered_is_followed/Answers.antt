use Rattle.lowering_invariants.proofs.SeparatorCounts.BlockSeparators as lemma
use Rattle.lowering_invariants.proofs.place_laws.lowered_is_followed.Goals as goal

pub returns : goal.returns
returns c = record { followed = lemma.lowered_is_followed }
