use Rattle.image_runs.proofs.MainStart as lemma
use Rattle.image_runs.proofs.main_laws.laws.Goals as goal

pub returns : goal.returns
returns c = record { main = lemma.main_is_begun }
