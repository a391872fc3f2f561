use Rattle.lowering_locals.proofs.Alike as lemma
use Rattle.lowering_locals.proofs.unset_laws.marked_continues.Goals as goal

pub returns : goal.returns
returns c = record { marked = lemma.marked_continues }
