use Rattle.abi_unwind.proofs.Agreement.{they_agree, they_refuse}
use Rattle.abi_unwind.proofs.laws.agreement.Goals as goal

pub returns : goal.returns
returns c = record { agree = they_agree; refuse = they_refuse }
