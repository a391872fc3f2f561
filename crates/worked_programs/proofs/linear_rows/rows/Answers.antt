use Rattle.worked_programs.proofs.LinearRows.{sum_and_return, null_store_caught, filter_then_finally, continue_same_operand, return_flags, leave_flags, division_faults, division_by_zero, raise_in_filter, raise_in_finally, continue_noncontinuable, filter_asked_once, collided_twice, walk_in_filter, walk_after_collision, target_in_outer_activation, two_filters, break_through_finally, return_through_two, store_across_pages, fault_address, reserved_access, conversions, operators, six_arguments, loops, deep_recursion, endless_recursion, asked_first, handler_continues, asked_again, sum_to_argument, left_activations}
use Rattle.worked_programs.proofs.linear_rows.rows.Goals as goal

pub returns : goal.returns
returns c = record {
  sum_and_return = sum_and_return;
  null_store_caught = null_store_caught;
  filter_then_finally = filter_then_finally;
  continue_same_operand = continue_same_operand;
  return_flags = return_flags;
  leave_flags = leave_flags;
  division_faults = division_faults;
  division_by_zero = division_by_zero;
  raise_in_filter = raise_in_filter;
  raise_in_finally = raise_in_finally;
  continue_noncontinuable = continue_noncontinuable;
  filter_asked_once = filter_asked_once;
  collided_twice = collided_twice;
  walk_in_filter = walk_in_filter;
  walk_after_collision = walk_after_collision;
  target_in_outer_activation = target_in_outer_activation;
  two_filters = two_filters;
  break_through_finally = break_through_finally;
  return_through_two = return_through_two;
  store_across_pages = store_across_pages;
  fault_address = fault_address;
  reserved_access = reserved_access;
  conversions = conversions;
  operators = operators;
  six_arguments = six_arguments;
  loops = loops;
  deep_recursion = deep_recursion;
  endless_recursion = endless_recursion;
  asked_first = asked_first;
  handler_continues = handler_continues;
  asked_again = asked_again;
  sum_to_argument = sum_to_argument;
  left_activations = left_activations;
}
