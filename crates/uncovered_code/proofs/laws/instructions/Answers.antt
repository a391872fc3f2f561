use Rattle.uncovered_code.proofs.Instructions.{instructions_are_one_list, frameless_writes_no_nonvolatile}
use Rattle.uncovered_code.proofs.laws.instructions.Goals as goal

pub returns : goal.returns
returns c = record { one_list = instructions_are_one_list; kept = frameless_writes_no_nonvolatile }
