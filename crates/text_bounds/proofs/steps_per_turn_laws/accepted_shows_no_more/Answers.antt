use Rattle.text_bounds.proofs.StepsPerTurn as lemma
use Rattle.text_bounds.proofs.steps_per_turn_laws.accepted_shows_no_more.Goals as goal

pub returns : goal.returns
returns c = record { no_more = lemma.accepted_shows_no_more }
