use Rattle.source_operations.proofs.data_stack.+number.Given as goal

abbrev pub decreases-number : goal.decreases-number
decreases-number l = l.count
