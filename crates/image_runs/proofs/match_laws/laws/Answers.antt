use Rattle.image_runs.proofs.RunMatches as lemma
use Rattle.image_runs.proofs.match_laws.laws.Goals as goal

pub returns : goal.returns
returns c = record { all = lemma.all; no_more = lemma.no_more; shadow = lemma.shadow }
