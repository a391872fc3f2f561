use Rattle.std.proofs.Common.{length}
use Rattle.known_frames.proofs.unwound.+chain_undone.Given as goal

abbrev pub decreases-chain_undone : goal.decreases-chain_undone
decreases-chain_undone l = length l.parents.now
