use Rattle.lowering_locals.proofs.AgreementSteps as lemma
use Rattle.lowering_locals.proofs.agreement.agreeing_are_small.Goals as goal

pub returns : goal.returns
returns c = record { small = lemma.agreeing_are_small }
