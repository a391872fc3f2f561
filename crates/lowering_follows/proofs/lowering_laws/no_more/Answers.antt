use Rattle.lowering_follows.proofs.ProgramLowering as lemma
use Rattle.lowering_follows.proofs.lowering_laws.no_more.Goals as goal

pub returns : goal.returns
returns c = record { no_more = lemma.lowered_shows_no_more }
