use Rattle.text_bounds.proofs.StatementNesting as lemma
use Rattle.text_bounds.proofs.nesting_laws.accepted_is_small.Goals as goal

pub returns : goal.returns
returns c = record { small = lemma.accepted_is_small }
