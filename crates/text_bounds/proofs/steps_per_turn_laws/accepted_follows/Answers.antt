use Rattle.text_bounds.proofs.StepsPerTurn as lemma
use Rattle.text_bounds.proofs.steps_per_turn_laws.accepted_follows.Goals as goal

pub returns : goal.returns
returns c = record { follows = lemma.accepted_follows }
