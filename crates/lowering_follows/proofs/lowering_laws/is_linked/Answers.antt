use Rattle.lowering_follows.proofs.ProgramLowering as lemma
use Rattle.lowering_follows.proofs.lowering_laws.is_linked.Goals as goal

pub returns : goal.returns
returns c = record { linked = lemma.lowered_is_linked }
