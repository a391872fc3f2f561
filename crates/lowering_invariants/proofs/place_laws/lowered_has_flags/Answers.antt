use Rattle.lowering_invariants.proofs.Flags as lemma
use Rattle.lowering_invariants.proofs.place_laws.lowered_has_flags.Goals as goal

pub returns : goal.returns
returns c = record { flags = lemma.has_flags }
