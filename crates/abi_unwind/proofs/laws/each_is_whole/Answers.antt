use Rattle.abi_unwind.proofs.EachWhole.{each_is_whole}
use Rattle.abi_unwind.proofs.laws.each_is_whole.Goals as goal

pub returns : goal.returns
returns c = each_is_whole
