use Rattle.lowering_follows.proofs.WholeProgram as lemma
use Rattle.lowering_follows.proofs.follow_laws.linked_follows.Goals as goal

pub returns : goal.returns
returns c = record { follows = lemma.linked_follows }
