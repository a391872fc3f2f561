use Rattle.match_stack.proofs.FrameSearch.{search_finds_the_handlers}
use Rattle.match_stack.proofs.FrameUnwind.{unwinding_runs_the_blocks, unwinding_stops_at_the_target}
use Rattle.match_stack.proofs.ListKeeping.{kept_by_stores_below, kept_by_other_memories}
use Rattle.match_stack.proofs.list_laws.laws.Goals as goal

pub returns : goal.returns
returns c = record {
  search = search_finds_the_handlers;
  unwinding = unwinding_runs_the_blocks;
  target = unwinding_stops_at_the_target;
  kept = kept_by_stores_below;
  others = kept_by_other_memories;
}
