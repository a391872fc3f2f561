use Rattle.match_turns.proofs.Funclets.FuncletReturnSteps as lemma
use Rattle.match_turns.proofs.end_laws.laws.Goals as goal

pub returns : goal.returns
returns c = record { returns = lemma.funclet_returns_are_matched }
