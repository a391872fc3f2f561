use Rattle.match_turns.proofs.Calls.CallSteps as lemma
use Rattle.match_turns.proofs.call_laws.laws.Goals as goal

pub returns : goal.returns
returns c = record { returns = lemma.returns_are_matched; calls = lemma.calls_begin }
