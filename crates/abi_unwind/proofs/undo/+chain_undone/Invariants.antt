use Rattle.std.proofs.Common.{length}
use Rattle.abi_unwind.proofs.undo.+chain_undone.Given as goal

abbrev pub decreases-chain_undone : goal.decreases-chain_undone
decreases-chain_undone g l = length l.parents.now
