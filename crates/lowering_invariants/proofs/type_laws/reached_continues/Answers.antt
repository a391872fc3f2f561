use Rattle.lowering_invariants.proofs.Ready as lemma
use Rattle.lowering_invariants.proofs.type_laws.reached_continues.Goals as goal

pub returns : goal.returns
returns c = record { continues = lemma.continues }
