use Rattle.match_runs.proofs.Programs as lemma
use Rattle.match_runs.proofs.laws.laws.Goals as goal

pub returns : goal.returns
returns c = record {
  all = lemma.all;
  no_more = lemma.no_more;
  programs_all = lemma.programs_all;
  programs_no_more = lemma.programs_no_more;
  enough = lemma.enough;
  shadow = lemma.programs_walk_the_shadow;
}
