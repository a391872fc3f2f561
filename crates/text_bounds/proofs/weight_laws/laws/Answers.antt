use Rattle.text_bounds.proofs.StatementWeights as lemma
use Rattle.text_bounds.proofs.weight_laws.laws.Goals as goal

pub returns : goal.returns
returns c = record { bounded = lemma.weight_is_bounded }
