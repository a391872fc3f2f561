use Rattle.text_bounds.proofs.StepsPerTurn as lemma
use Rattle.text_bounds.proofs.steps_per_turn_laws.steps_per_turn_are_bounded.Goals as goal

pub returns : goal.returns
returns c = record { bounded = lemma.steps_per_turn_are_bounded }
