use Rattle.lowering_locals.proofs.Beginnings as lemma
use Rattle.lowering_locals.proofs.agreement.agreement_at_beginning.Goals as goal

pub returns : goal.returns
returns c = record { agreement = lemma.agreement_at_beginning }
