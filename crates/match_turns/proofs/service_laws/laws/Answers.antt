use Rattle.match_turns.proofs.Services.ServiceSteps as lemma
use Rattle.match_turns.proofs.service_laws.laws.Goals as goal

pub returns : goal.returns
returns c = record {
  information = lemma.information_is_matched;
  puts = lemma.puts_are_matched;
  protects = lemma.protects_are_matched;
  walks = lemma.walks_are_matched;
  adds = lemma.adds_are_matched;
  removes = lemma.removes_are_matched;
}
