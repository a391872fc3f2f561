use Rattle.lowering_follows.proofs.ProgramLowering as lemma
use Rattle.lowering_follows.proofs.lowering_laws.follows.Goals as goal

pub returns : goal.returns
returns c = record { follows = lemma.lowered_follows }
