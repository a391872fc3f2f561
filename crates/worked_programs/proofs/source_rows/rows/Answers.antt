use Rattle.worked_programs.proofs.SourceRows.{sum_and_return, empty_text, null_store_caught_traced, null_store_caught, filter_then_finally, continue_same_operand, return_and_leave_flags_return, return_and_leave_flags_leave, division_faults_unhandled_overflow, division_faults_unhandled_zero, call_last_in_try, try_last_in_function, leaf_fault_caught, raise_in_filter, raise_in_finally, continue_noncontinuable, registers_restored_at_landing, deep_recursion_deep, deep_recursion, store_across_pages, fault_address_in_filter, sum_to_argument_0, sum_to_argument_9, misplaced_jumps_leave, misplaced_jumps_return, undefined_reserved_access, conversions_and_shifts, division_by_zero_traced, address_of_local, local_array_sum, data_stack_pointer_in_handlers, six_arguments, two_filters_of_one_fault, break_through_finally, return_through_two_finallys, target_in_outer_activation, filter_asked_once_under_collision, collided_twice, vectored_handler_asked_first, vectored_handler_continues}
use Rattle.worked_programs.proofs.source_rows.rows.Goals as goal

pub returns : goal.returns
returns c = record {
  sum_and_return = sum_and_return;
  empty_text = empty_text;
  null_store_caught_traced = null_store_caught_traced;
  null_store_caught = null_store_caught;
  filter_then_finally = filter_then_finally;
  continue_same_operand = continue_same_operand;
  return_and_leave_flags_return = return_and_leave_flags_return;
  return_and_leave_flags_leave = return_and_leave_flags_leave;
  division_faults_unhandled_overflow = division_faults_unhandled_overflow;
  division_faults_unhandled_zero = division_faults_unhandled_zero;
  call_last_in_try = call_last_in_try;
  try_last_in_function = try_last_in_function;
  leaf_fault_caught = leaf_fault_caught;
  raise_in_filter = raise_in_filter;
  raise_in_finally = raise_in_finally;
  continue_noncontinuable = continue_noncontinuable;
  registers_restored_at_landing = registers_restored_at_landing;
  deep_recursion_deep = deep_recursion_deep;
  deep_recursion = deep_recursion;
  store_across_pages = store_across_pages;
  fault_address_in_filter = fault_address_in_filter;
  sum_to_argument_0 = sum_to_argument_0;
  sum_to_argument_9 = sum_to_argument_9;
  misplaced_jumps_leave = misplaced_jumps_leave;
  misplaced_jumps_return = misplaced_jumps_return;
  undefined_reserved_access = undefined_reserved_access;
  conversions_and_shifts = conversions_and_shifts;
  division_by_zero_traced = division_by_zero_traced;
  address_of_local = address_of_local;
  local_array_sum = local_array_sum;
  data_stack_pointer_in_handlers = data_stack_pointer_in_handlers;
  six_arguments = six_arguments;
  two_filters_of_one_fault = two_filters_of_one_fault;
  break_through_finally = break_through_finally;
  return_through_two_finallys = return_through_two_finallys;
  target_in_outer_activation = target_in_outer_activation;
  filter_asked_once_under_collision = filter_asked_once_under_collision;
  collided_twice = collided_twice;
  vectored_handler_asked_first = vectored_handler_asked_first;
  vectored_handler_continues = vectored_handler_continues;
}
