use Rattle.c_parse.proofs.ProgramOrFault.{program_or_fault}
use Rattle.c_parse.proofs.laws.laws.Goals as goal

pub returns : goal.returns
returns c = program_or_fault
