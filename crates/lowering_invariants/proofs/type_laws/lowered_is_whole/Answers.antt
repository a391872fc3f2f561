use Rattle.lowering_invariants.proofs.Lowered as lemma
use Rattle.lowering_invariants.proofs.type_laws.lowered_is_whole.Goals as goal

pub returns : goal.returns
returns c = record { whole = lemma.lowered_is_whole }
