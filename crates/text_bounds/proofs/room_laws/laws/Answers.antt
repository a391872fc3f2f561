use Rattle.text_bounds.proofs.ProgramRooms as lemma
use Rattle.text_bounds.proofs.room_laws.laws.Goals as goal

pub returns : goal.returns
returns c = record { bounded = lemma.lowered_is_bounded }
