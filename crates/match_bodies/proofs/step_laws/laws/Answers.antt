use Rattle.match_bodies.proofs.Steps.BodySteps as lemma
use Rattle.match_bodies.proofs.step_laws.laws.Goals as goal

pub returns : goal.returns
returns c = record { within = lemma.within_body; separators = lemma.separators_are_matched }
