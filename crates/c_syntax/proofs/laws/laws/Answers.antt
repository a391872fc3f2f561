use Rattle.c_syntax.proofs.Blocks.{one_statement}
use Rattle.c_syntax.proofs.Files.{one_program}
use Rattle.c_syntax.proofs.FirstFault.{one_first_fault, no_fault_in_program}
use Rattle.c_syntax.proofs.Once.{one_expression}
use Rattle.c_syntax.proofs.Starts.{begins}
use Rattle.c_syntax.proofs.laws.laws.Goals as goal

pub returns : goal.returns
returns c = record {
  one_program = one_program;
  one_statement = one_statement;
  one_expression = one_expression;
  start = begins;
  one_first_fault = one_first_fault;
  no_fault_in_program = no_fault_in_program;
}
