use Rattle.lowering_invariants.proofs.Room as lemma
use Rattle.lowering_invariants.proofs.type_laws.lowered_has_room.Goals as goal

pub returns : goal.returns
returns c = record { room = lemma.has_room }
