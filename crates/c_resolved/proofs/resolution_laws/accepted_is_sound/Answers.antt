use Rattle.c_resolved.proofs.SoundPrograms as lemma
use Rattle.c_resolved.proofs.resolution_laws.accepted_is_sound.Goals as goal

pub returns : goal.returns
returns c = record { is_sound = lemma.accepted_is_sound }
