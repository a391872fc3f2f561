use Rattle.lowering_locals.proofs.AgreementSteps as lemma
use Rattle.lowering_locals.proofs.agreement.agreement_continues.Goals as goal

pub returns : goal.returns
returns c = record { agreement = lemma.agreement_continues }
