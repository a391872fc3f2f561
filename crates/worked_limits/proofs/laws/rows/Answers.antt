use Rattle.worked_limits.proofs.Rows.{locals_weigh, handlers_added, left_heavy, left_handler_lands, left_handler_is_deep, walk_in_handler}
use Rattle.worked_limits.proofs.laws.rows.Goals as goal

pub returns : goal.returns
returns c = record {
  locals = locals_weigh;
  handlers = handlers_added;
  left_heavy = left_heavy;
  left_handler_lands = left_handler_lands;
  left_handler_is_deep = left_handler_is_deep;
  walk_in_handler = walk_in_handler;
}
