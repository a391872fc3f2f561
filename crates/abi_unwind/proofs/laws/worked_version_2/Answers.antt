use Rattle.abi_unwind.proofs.WorkedVersion2.{listed_epilogues}
use Rattle.abi_unwind.proofs.laws.worked_version_2.Goals as goal

pub returns : goal.returns
returns c = listed_epilogues
