use Rattle.match_stack.proofs.ItemVisits.{frame_is_visited, leaf_is_visited, search_is_passed, unwinding_is_passed, stack_is_over}
use Rattle.match_stack.proofs.StackKeeping.{kept_by_other_stores, nothing_below_is_owned, slots_are_free}
use Rattle.match_stack.proofs.RecordPlacement.{record_is_one_more}
use Rattle.match_stack.proofs.ListWalks.{search_is_of_the_list, unwinding_is_of_the_list}
use Rattle.match_stack.proofs.walk_laws.laws.Goals as goal

pub returns : goal.returns
returns c = record {
  frame = frame_is_visited;
  leaf = leaf_is_visited;
  search = search_is_passed;
  unwinding = unwinding_is_passed;
  over = stack_is_over;
  kept = kept_by_other_stores;
  below = nothing_below_is_owned;
  slots = slots_are_free;
  one_more = record_is_one_more;
  searched = search_is_of_the_list;
  unwound = unwinding_is_of_the_list;
}
