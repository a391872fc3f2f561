use Rattle.lowering_locals.proofs.Alike as lemma
use Rattle.lowering_locals.proofs.unset_laws.marked_is_reached.Goals as goal

pub returns : goal.returns
returns c = record { reached = lemma.marked_is_reached }
