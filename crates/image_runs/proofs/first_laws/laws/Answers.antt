use Rattle.image_runs.proofs.FirstState as lemma
use Rattle.image_runs.proofs.first_laws.laws.Goals as goal

pub returns : goal.returns
returns c = record { first = lemma.first_states_start; main = lemma.mains_begin }
