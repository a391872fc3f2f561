use Rattle.image_runs.proofs.TextImages as lemma
use Rattle.image_runs.proofs.accepted_laws.laws.Goals as goal

pub returns : goal.returns
returns c = record {
  reads = lemma.reads_no_unset;
  realise = lemma.realise;
  nothing_more = lemma.nothing_more;
}
