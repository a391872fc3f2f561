use Rattle.x64_lengths.proofs.Assembled.{assembled}
use Rattle.x64_lengths.proofs.EachRow.{each_row}
use Rattle.x64_lengths.proofs.MeasuredLaw.{lengths_agree}
use Rattle.x64_lengths.proofs.agreement.agreement.Goals as goal

pub returns-clause-opcodes : goal.returns-clause-opcodes
returns-clause-opcodes c = each_row

pub returns-clause-instructions : goal.returns-clause-instructions
returns-clause-instructions c = assembled each_row

pub returns-clause-measured : goal.returns-clause-measured
returns-clause-measured c = lengths_agree
