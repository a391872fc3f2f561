use Rattle.x64_instr.proofs.reading.+number.Given as goal

abbrev pub decreases-number : goal.decreases-number
decreases-number l = l.count
