use Rattle.match_stack.proofs.RecordMemory.{pushed_record_leaves_others, return_address_is_pushed}
use Rattle.match_stack.proofs.DispatchItems.{record_leaves_the_list, search_is_one_more, unwinding_is_one_more}
use Rattle.match_stack.proofs.record_laws.laws.Goals as goal

pub returns : goal.returns
returns c = record {
  list = record_leaves_the_list;
  search = search_is_one_more;
  unwinding = unwinding_is_one_more;
  others = pushed_record_leaves_others;
  returns = return_address_is_pushed;
}
