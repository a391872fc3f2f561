use Rattle.unwind_check.proofs.NamedInfos.{named_info_serves}
use Rattle.unwind_check.proofs.laws.named_infos.Goals as goal

pub returns : goal.returns
returns c = named_info_serves
