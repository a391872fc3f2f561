use Rattle.text_bounds.proofs.StatementNesting as lemma
use Rattle.text_bounds.proofs.nesting_laws.resolved_is_shallow.Goals as goal

pub returns : goal.returns
returns c = record { shallow = lemma.resolved_is_shallow }
