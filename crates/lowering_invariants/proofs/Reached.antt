-- What holds of each configuration that the linear code of a sound program comes to.
use Rattle.lowering_invariants.specs.Words.{lowered, ReachedIsStacked, ReachedHasActivations, ReachedIsSmall, ReachedHasDepths}
use Rattle.lowering_invariants.proofs.Lowered.{lowered_is_whole}
use Rattle.lowering_invariants.proofs.Stacks.TurnActivations.{reached_both}
use Rattle.lowering_invariants.proofs.Stacks.TurnNumbers.{reached_small}
use Rattle.lowering_invariants.proofs.Places.DepthStatements.{bodies_lead}
use Rattle.lowering_invariants.proofs.Stacks.TurnDepths.{reached_deep}

pub is_stacked : ReachedIsStacked
is_stacked program h c r = (reached_both (lowered program) (lowered_is_whole program h) c r).0

pub has_activations : ReachedHasActivations
has_activations program h c r = (reached_both (lowered program) (lowered_is_whole program h) c r).1

pub is_small : ReachedIsSmall
is_small program h c r = reached_small (lowered program) c r

pub has_depths : ReachedHasDepths
has_depths program h c r = reached_deep (lowered program) (lowered_is_whole program h)
    (bodies_lead program) c r
