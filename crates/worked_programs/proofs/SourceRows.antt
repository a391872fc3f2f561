-- The rows, computed.
use Rattle.std.proofs.Common.{refl}
use Rattle.source_meaning.specs.Meaning.{computed}
use Rattle.worked_programs.specs.SourceRows.{sum_and_return_row, empty_text_row, null_store_caught_traced_row, null_store_caught_row, filter_then_finally_row, continue_same_operand_row, return_and_leave_flags_return_row, return_and_leave_flags_leave_row, division_faults_unhandled_overflow_row, division_faults_unhandled_zero_row, call_last_in_try_row, try_last_in_function_row, leaf_fault_caught_row, raise_in_filter_row, raise_in_finally_row, continue_noncontinuable_row, registers_restored_at_landing_row, deep_recursion_deep_row, deep_recursion_row, store_across_pages_row, fault_address_in_filter_row, sum_to_argument_0_row, sum_to_argument_9_row, misplaced_jumps_leave_row, misplaced_jumps_return_row, undefined_reserved_access_row, conversions_and_shifts_row, division_by_zero_traced_row, address_of_local_row, local_array_sum_row, data_stack_pointer_in_handlers_row, six_arguments_row, two_filters_of_one_fault_row, break_through_finally_row, return_through_two_finallys_row, target_in_outer_activation_row, filter_asked_once_under_collision_row, collided_twice_row, vectored_handler_asked_first_row, vectored_handler_continues_row}

pub sum_and_return : sum_and_return_row
unfolding computed
sum_and_return = record { faults = refl; sound = refl; prints = refl; ends = refl }

pub empty_text : empty_text_row
unfolding computed
empty_text = refl

pub null_store_caught_traced : null_store_caught_traced_row
unfolding computed
null_store_caught_traced = record { faults = refl; sound = refl; prints = refl; ends = refl }

pub null_store_caught : null_store_caught_row
unfolding computed
null_store_caught = record { faults = refl; sound = refl; prints = refl; ends = refl }

pub filter_then_finally : filter_then_finally_row
unfolding computed
filter_then_finally = record { faults = refl; sound = refl; prints = refl; ends = refl }

pub continue_same_operand : continue_same_operand_row
unfolding computed
continue_same_operand = record { faults = refl; sound = refl; prints = refl; ends = refl }

pub return_and_leave_flags_return : return_and_leave_flags_return_row
unfolding computed
return_and_leave_flags_return = record { faults = refl; sound = refl; prints = refl; ends = refl }

pub return_and_leave_flags_leave : return_and_leave_flags_leave_row
unfolding computed
return_and_leave_flags_leave = record { faults = refl; sound = refl; prints = refl; ends = refl }

pub division_faults_unhandled_overflow : division_faults_unhandled_overflow_row
unfolding computed
division_faults_unhandled_overflow = record {
  faults = refl;
  sound = refl;
  prints = refl;
  ends = refl;
}

pub division_faults_unhandled_zero : division_faults_unhandled_zero_row
unfolding computed
division_faults_unhandled_zero = record { faults = refl; sound = refl; prints = refl; ends = refl }

pub call_last_in_try : call_last_in_try_row
unfolding computed
call_last_in_try = record { faults = refl; sound = refl; prints = refl; ends = refl }

pub try_last_in_function : try_last_in_function_row
unfolding computed
try_last_in_function = record { faults = refl; sound = refl; prints = refl; ends = refl }

pub leaf_fault_caught : leaf_fault_caught_row
unfolding computed
leaf_fault_caught = record { faults = refl; sound = refl; prints = refl; ends = refl }

pub raise_in_filter : raise_in_filter_row
unfolding computed
raise_in_filter = record { faults = refl; sound = refl; prints = refl; ends = refl }

pub raise_in_finally : raise_in_finally_row
unfolding computed
raise_in_finally = record { faults = refl; sound = refl; prints = refl; ends = refl }

pub continue_noncontinuable : continue_noncontinuable_row
unfolding computed
continue_noncontinuable = record { faults = refl; sound = refl; prints = refl; ends = refl }

pub registers_restored_at_landing : registers_restored_at_landing_row
unfolding computed
registers_restored_at_landing = record { faults = refl; sound = refl; prints = refl; ends = refl }

pub deep_recursion_deep : deep_recursion_deep_row
unfolding computed
deep_recursion_deep = record { faults = refl; sound = refl; prints = refl; ends = refl }

pub deep_recursion : deep_recursion_row
unfolding computed
deep_recursion = record { faults = refl; sound = refl; prints = refl; ends = refl }

pub store_across_pages : store_across_pages_row
unfolding computed
store_across_pages = record { faults = refl; sound = refl; prints = refl; ends = refl }

pub fault_address_in_filter : fault_address_in_filter_row
unfolding computed
fault_address_in_filter = record { faults = refl; sound = refl; prints = refl; ends = refl }

pub sum_to_argument_0 : sum_to_argument_0_row
unfolding computed
sum_to_argument_0 = record { faults = refl; sound = refl; prints = refl; ends = refl }

pub sum_to_argument_9 : sum_to_argument_9_row
unfolding computed
sum_to_argument_9 = record { faults = refl; sound = refl; prints = refl; ends = refl }

pub misplaced_jumps_leave : misplaced_jumps_leave_row
unfolding computed
misplaced_jumps_leave = refl

pub misplaced_jumps_return : misplaced_jumps_return_row
unfolding computed
misplaced_jumps_return = refl

pub undefined_reserved_access : undefined_reserved_access_row
unfolding computed
undefined_reserved_access = record { faults = refl; sound = refl; prints = refl; ends = refl }

pub conversions_and_shifts : conversions_and_shifts_row
unfolding computed
conversions_and_shifts = record { faults = refl; sound = refl; prints = refl; ends = refl }

pub division_by_zero_traced : division_by_zero_traced_row
unfolding computed
division_by_zero_traced = record { faults = refl; sound = refl; prints = refl; ends = refl }

pub address_of_local : address_of_local_row
unfolding computed
address_of_local = record { faults = refl; sound = refl; prints = refl; ends = refl }

pub local_array_sum : local_array_sum_row
unfolding computed
local_array_sum = record { faults = refl; sound = refl; prints = refl; ends = refl }

pub data_stack_pointer_in_handlers : data_stack_pointer_in_handlers_row
unfolding computed
data_stack_pointer_in_handlers = record { faults = refl; sound = refl; prints = refl; ends = refl }

pub six_arguments : six_arguments_row
unfolding computed
six_arguments = record { faults = refl; sound = refl; prints = refl; ends = refl }

pub two_filters_of_one_fault : two_filters_of_one_fault_row
unfolding computed
two_filters_of_one_fault = record { faults = refl; sound = refl; prints = refl; ends = refl }

pub break_through_finally : break_through_finally_row
unfolding computed
break_through_finally = record { faults = refl; sound = refl; prints = refl; ends = refl }

pub return_through_two_finallys : return_through_two_finallys_row
unfolding computed
return_through_two_finallys = record { faults = refl; sound = refl; prints = refl; ends = refl }

pub target_in_outer_activation : target_in_outer_activation_row
unfolding computed
target_in_outer_activation = record { faults = refl; sound = refl; prints = refl; ends = refl }

pub filter_asked_once_under_collision : filter_asked_once_under_collision_row
unfolding computed
filter_asked_once_under_collision = record {
  faults = refl;
  sound = refl;
  prints = refl;
  ends = refl;
}

pub collided_twice : collided_twice_row
unfolding computed
collided_twice = record { faults = refl; sound = refl; prints = refl; ends = refl }

pub vectored_handler_asked_first : vectored_handler_asked_first_row
unfolding computed
vectored_handler_asked_first = record { faults = refl; sound = refl; prints = refl; ends = refl }

pub vectored_handler_continues : vectored_handler_continues_row
unfolding computed
vectored_handler_continues = record { faults = refl; sound = refl; prints = refl; ends = refl }
