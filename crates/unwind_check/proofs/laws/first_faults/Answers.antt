use Rattle.unwind_check.proofs.FirstFaults.{faults_are_first}
use Rattle.unwind_check.proofs.laws.first_faults.Goals as goal

pub returns : goal.returns
returns c = faults_are_first
