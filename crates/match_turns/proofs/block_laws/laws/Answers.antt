use Rattle.match_turns.proofs.FinallyBlocks.FinallyCallSteps as lemma
use Rattle.match_turns.proofs.block_laws.laws.Goals as goal

pub returns : goal.returns
returns c = record { calls = lemma.block_calls_are_matched }
