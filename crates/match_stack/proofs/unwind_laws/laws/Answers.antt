use Rattle.match_stack.proofs.UnwindBlocks.{unwinding_is_the_lists}
use Rattle.match_stack.proofs.unwind_laws.laws.Goals as goal

pub returns : goal.returns
returns c = record { unwound = unwinding_is_the_lists }
