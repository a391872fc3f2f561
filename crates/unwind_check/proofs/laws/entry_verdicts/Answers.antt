use Rattle.unwind_check.proofs.JoinedVerdicts.{first_no_is_the_verdict, faultless_is_kept}
use Rattle.unwind_check.proofs.laws.entry_verdicts.Goals as goal

pub returns : goal.returns
returns c = record { first = first_no_is_the_verdict; kept = faultless_is_kept }
