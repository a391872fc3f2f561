use Rattle.x64_instr.proofs.Table.{one_reading}
use Rattle.x64_instr.proofs.decoding.one_reading.Goals as goal

pub returns : goal.returns
returns c = one_reading
