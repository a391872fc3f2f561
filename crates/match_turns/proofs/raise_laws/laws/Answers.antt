use Rattle.match_turns.proofs.Raises.RaiseCall as raising
use Rattle.match_turns.proofs.FinallyBlocks.LocalUnwindCall as unwinding
use Rattle.match_turns.proofs.Raises.RaiseContinuation as continuing
use Rattle.match_turns.proofs.Bodies.BodyContinuation as joining
use Rattle.match_turns.proofs.raise_laws.laws.Goals as goal

pub returns : goal.returns
returns c = record {
  raises = raising.raises_are_matched;
  unwinds = unwinding.local_unwinds_are_matched;
  continuations = continuing.continuations_after_calls;
  all_continuations = joining.bodies_continue;
}
