use Rattle.dump_stacks.proofs.ListedRanges.{ranges_are_memory}
use Rattle.dump_stacks.proofs.SameMemory.{reads_the_dump}
use Rattle.dump_stacks.proofs.SameWalk.{stack_is_the_dumps}
use Rattle.dump_stacks.proofs.laws.stacks_are_walks.Goals as goal

pub returns-clause-ranges : goal.returns-clause-ranges
returns-clause-ranges c = ranges_are_memory

pub returns-clause-reads : goal.returns-clause-reads
returns-clause-reads c = reads_the_dump

pub returns-clause-walk : goal.returns-clause-walk
returns-clause-walk c = stack_is_the_dumps
