use Rattle.match_turns.proofs.Funclets.FuncletSteps as lemma
use Rattle.match_turns.proofs.funclet_laws.laws.Goals as goal

pub returns : goal.returns
returns c = record {
  filters = lemma.called_filters_begin;
  blocks = lemma.called_blocks_begin;
  ends = lemma.returns_of_blocks_are_matched;
}
