use Rattle.x64_memory.proofs.paged.+spread_number.Given as goal

abbrev pub decreases-spread_number : goal.decreases-spread_number
decreases-spread_number g l = l.count
