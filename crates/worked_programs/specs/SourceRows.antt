-- What the texts print when they are resolved and run by the meaning, and how they are refused.
use Rattle.std.specs.Prelude.{true, false, [], ◌∷◌, pos, negsuc, Some, None}
use Rattle.seh_num.specs.declared.event.Event.TheVariants as events
use Rattle.source_meaning.specs.declared.ended.Ended.TheVariants.{Exit, Unhandled, Undefined, Deep}
use Rattle.c_resolved.specs.declared.fault.Fault.TheVariants.{NoMain, LeaveOutsideTry, JumpOutOfFinally}
use Rattle.worked_programs.specs.Prints.{Prints, IsRefused}
use Rattle.worked_programs.specs.Texts.{sum_and_return_text, sum_and_return, empty_text_text, empty_text, null_store_caught_traced_text, null_store_caught_traced, null_store_caught_text, null_store_caught, filter_then_finally_text, filter_then_finally, continue_same_operand_text, continue_same_operand, return_and_leave_flags_return_text, return_and_leave_flags_return, return_and_leave_flags_leave_text, return_and_leave_flags_leave, division_faults_unhandled_overflow_text, division_faults_unhandled_overflow, division_faults_unhandled_zero_text, division_faults_unhandled_zero, call_last_in_try_text, call_last_in_try, try_last_in_function_text, try_last_in_function, leaf_fault_caught_text, leaf_fault_caught, raise_in_filter_text, raise_in_filter, raise_in_finally_text, raise_in_finally, continue_noncontinuable_text, continue_noncontinuable, registers_restored_at_landing_text, registers_restored_at_landing, deep_recursion_deep_text, deep_recursion_deep, deep_recursion_text, deep_recursion, store_across_pages_text, store_across_pages, fault_address_in_filter_text, fault_address_in_filter, sum_to_argument_0_text, sum_to_argument_0, sum_to_argument_9_text, sum_to_argument_9, misplaced_jumps_leave_text, misplaced_jumps_leave, misplaced_jumps_return_text, misplaced_jumps_return, undefined_reserved_access_text, undefined_reserved_access, conversions_and_shifts_text, conversions_and_shifts, division_by_zero_traced_text, division_by_zero_traced, address_of_local_text, address_of_local, local_array_sum_text, local_array_sum, data_stack_pointer_in_handlers_text, data_stack_pointer_in_handlers, six_arguments_text, six_arguments, two_filters_of_one_fault_text, two_filters_of_one_fault, break_through_finally_text, break_through_finally, return_through_two_finallys_text, return_through_two_finallys, target_in_outer_activation_text, target_in_outer_activation, filter_asked_once_under_collision_text, filter_asked_once_under_collision, collided_twice_text, collided_twice, vectored_handler_asked_first_text, vectored_handler_asked_first, vectored_handler_continues_text, vectored_handler_continues}

abbrev pub sum_and_return_row : Type 0
sum_and_return_row =
    Prints sum_and_return_text sum_and_return false (pos 0) 1000 (events.Put (pos 14) ∷ [])
    (Exit (pos 7))

abbrev pub empty_text_row : Type 0
empty_text_row = IsRefused empty_text_text empty_text NoMain 0

abbrev pub null_store_caught_traced_row : Type 0
null_store_caught_traced_row =
    Prints null_store_caught_traced_text null_store_caught_traced true (pos 0) 1000
    (events.Raise (record { 0 = 3221225477 }) false (Some (true, 0))
    ∷ events.Except (record { 0 = 3221225477 }) ∷ events.Put (pos 1) ∷ []) (Exit (pos 0))

abbrev pub null_store_caught_row : Type 0
null_store_caught_row =
    Prints null_store_caught_text null_store_caught false (pos 0) 1000 (events.Put (pos 1) ∷ [])
    (Exit (pos 0))

abbrev pub filter_then_finally_row : Type 0
filter_then_finally_row =
    Prints filter_then_finally_text filter_then_finally true (pos 0) 1000
    (events.Raise (record { 0 = 3758096385 }) false None ∷ events.Filter 2
    ∷ events.Answer (pos 2) ∷ events.Finally 1 true ∷ events.Put (pos 1)
    ∷ events.Except (record { 0 = 3758096385 }) ∷ events.Put (pos 3) ∷ []) (Exit (pos 0))

abbrev pub continue_same_operand_row : Type 0
continue_same_operand_row =
    Prints continue_same_operand_text continue_same_operand true (pos 0) 1000
    (events.Raise (record { 0 = 3221225477 }) false (Some (false, 536870912)) ∷ events.Filter 1
    ∷ events.Answer (negsuc 0) ∷ events.Put (pos 0) ∷ []) (Exit (pos 0))

abbrev pub return_and_leave_flags_return_row : Type 0
return_and_leave_flags_return_row =
    Prints return_and_leave_flags_return_text return_and_leave_flags_return false (pos 0) 1000
    (events.Put (pos 1) ∷ []) (Exit (pos 5))

abbrev pub return_and_leave_flags_leave_row : Type 0
return_and_leave_flags_leave_row =
    Prints return_and_leave_flags_leave_text return_and_leave_flags_leave false (pos 0) 1000
    (events.Put (pos 0) ∷ []) (Exit (pos 6))

abbrev pub division_faults_unhandled_overflow_row : Type 0
division_faults_unhandled_overflow_row =
    Prints division_faults_unhandled_overflow_text division_faults_unhandled_overflow false
    (pos 0) 1000 ([]) (Unhandled (record { 0 = 3221225621 }))

abbrev pub division_faults_unhandled_zero_row : Type 0
division_faults_unhandled_zero_row =
    Prints division_faults_unhandled_zero_text division_faults_unhandled_zero false (pos 0) 1000
    ([]) (Unhandled (record { 0 = 3221225620 }))

abbrev pub call_last_in_try_row : Type 0
call_last_in_try_row =
    Prints call_last_in_try_text call_last_in_try false (pos 0) 1000 (events.Put (pos 1) ∷ [])
    (Exit (pos 0))

abbrev pub try_last_in_function_row : Type 0
try_last_in_function_row =
    Prints try_last_in_function_text try_last_in_function false (pos 0) 1000
    (events.Put (pos 1) ∷ events.Put (pos 2) ∷ []) (Exit (pos 0))

abbrev pub leaf_fault_caught_row : Type 0
leaf_fault_caught_row =
    Prints leaf_fault_caught_text leaf_fault_caught false (pos 0) 1000 (events.Put (pos 1) ∷ [])
    (Exit (pos 0))

abbrev pub raise_in_filter_row : Type 0
raise_in_filter_row =
    Prints raise_in_filter_text raise_in_filter true (pos 0) 1000
    (events.Raise (record { 0 = 3758096385 }) false None ∷ events.Filter 1
    ∷ events.Raise (record { 0 = 3758096386 }) false None ∷ events.Filter 1
    ∷ events.Answer (pos 0) ∷ events.Filter 2 ∷ events.Answer (pos 1)
    ∷ events.Except (record { 0 = 3758096386 }) ∷ events.Put (pos 2) ∷ []) (Exit (pos 0))

abbrev pub raise_in_finally_row : Type 0
raise_in_finally_row =
    Prints raise_in_finally_text raise_in_finally true (pos 0) 1000
    (events.Raise (record { 0 = 3758096385 }) false None ∷ events.Filter 2
    ∷ events.Answer (pos 0) ∷ events.Finally 1 true
    ∷ events.Raise (record { 0 = 3758096386 }) false None ∷ events.Filter 2 ∷ events.Answer (pos 1)
    ∷ events.Except (record { 0 = 3758096386 }) ∷ events.Put (pos 2) ∷ []) (Exit (pos 0))

abbrev pub continue_noncontinuable_row : Type 0
continue_noncontinuable_row =
    Prints continue_noncontinuable_text continue_noncontinuable true (pos 0) 1000
    (events.Raise (record { 0 = 3758096387 }) true None ∷ events.Filter 1
    ∷ events.Answer (negsuc 0) ∷ events.Raise (record { 0 = 3221225509 }) true None
    ∷ events.Filter 1 ∷ events.Answer (pos 1) ∷ events.Except (record { 0 = 3221225509 })
    ∷ events.Put (pos 3) ∷ []) (Exit (pos 0))

abbrev pub registers_restored_at_landing_row : Type 0
registers_restored_at_landing_row =
    Prints registers_restored_at_landing_text registers_restored_at_landing false (pos 0) 1000
    (events.Put (pos 5) ∷ []) (Exit (pos 0))

abbrev pub deep_recursion_deep_row : Type 0
deep_recursion_deep_row =
    Prints deep_recursion_deep_text deep_recursion_deep false (pos 0) 20000 ([]) (Deep 1001)

abbrev pub deep_recursion_row : Type 0
deep_recursion_row =
    Prints deep_recursion_text deep_recursion false (pos 0) 20000 (events.Put (pos 900) ∷ [])
    (Exit (pos 0))

abbrev pub store_across_pages_row : Type 0
store_across_pages_row =
    Prints store_across_pages_text store_across_pages true (pos 0) 1000
    (events.Raise (record { 0 = 3221225477 }) false (Some (true, 536875008))
    ∷ events.Except (record { 0 = 3221225477 }) ∷ events.Put (pos 0) ∷ []) (Exit (pos 0))

abbrev pub fault_address_in_filter_row : Type 0
fault_address_in_filter_row =
    Prints fault_address_in_filter_text fault_address_in_filter false (pos 0) 1000
    (events.Put (pos 536870915) ∷ events.Put (pos 4) ∷ []) (Exit (pos 0))

abbrev pub sum_to_argument_0_row : Type 0
sum_to_argument_0_row =
    Prints sum_to_argument_0_text sum_to_argument_0 false (pos 0) 1000 (events.Put (pos 0) ∷ [])
    (Exit (pos 0))

abbrev pub sum_to_argument_9_row : Type 0
sum_to_argument_9_row =
    Prints sum_to_argument_9_text sum_to_argument_9 false (pos 9) 1000 (events.Put (pos 45) ∷ [])
    (Exit (pos 0))

abbrev pub misplaced_jumps_leave_row : Type 0
misplaced_jumps_leave_row =
    IsRefused misplaced_jumps_leave_text misplaced_jumps_leave LeaveOutsideTry 16

abbrev pub misplaced_jumps_return_row : Type 0
misplaced_jumps_return_row =
    IsRefused misplaced_jumps_return_text misplaced_jumps_return JumpOutOfFinally 36

abbrev pub undefined_reserved_access_row : Type 0
undefined_reserved_access_row =
    Prints undefined_reserved_access_text undefined_reserved_access false (pos 0) 1000
    (events.Put (pos 1) ∷ []) (Undefined 1879048192)

abbrev pub conversions_and_shifts_row : Type 0
conversions_and_shifts_row =
    Prints conversions_and_shifts_text conversions_and_shifts false (pos 0) 1000
    (events.Put (negsuc 55) ∷ events.Put (pos 4294967295) ∷ events.Put (negsuc 2)
    ∷ events.Put (negsuc 0) ∷ events.Put (pos 2) ∷ []) (Exit (pos 0))

abbrev pub division_by_zero_traced_row : Type 0
division_by_zero_traced_row =
    Prints division_by_zero_traced_text division_by_zero_traced true (pos 0) 1000
    (events.Raise (record { 0 = 3221225620 }) false None ∷ [])
    (Unhandled (record { 0 = 3221225620 }))

abbrev pub address_of_local_row : Type 0
address_of_local_row =
    Prints address_of_local_text address_of_local false (pos 0) 1000 ([]) (Exit (pos 0))

abbrev pub local_array_sum_row : Type 0
local_array_sum_row =
    Prints local_array_sum_text local_array_sum false (pos 0) 1000
    (events.Put (pos 12) ∷ events.Put (pos 805306384) ∷ []) (Exit (pos 0))

abbrev pub data_stack_pointer_in_handlers_row : Type 0
data_stack_pointer_in_handlers_row =
    Prints data_stack_pointer_in_handlers_text data_stack_pointer_in_handlers false (pos 0) 1000
    (events.Put (pos 32) ∷ events.Put (pos 16) ∷ []) (Exit (pos 0))

abbrev pub six_arguments_row : Type 0
six_arguments_row =
    Prints six_arguments_text six_arguments false (pos 0) 1000 (events.Put (negsuc 2) ∷ [])
    (Exit (pos 0))

abbrev pub two_filters_of_one_fault_row : Type 0
two_filters_of_one_fault_row =
    Prints two_filters_of_one_fault_text two_filters_of_one_fault true (pos 0) 1000
    (events.Raise (record { 0 = 3221225477 }) false (Some (true, 8)) ∷ events.Filter 1
    ∷ events.Answer (pos 0) ∷ events.Filter 2 ∷ events.Answer (pos 2)
    ∷ events.Except (record { 0 = 3221225477 }) ∷ events.Put (pos 2) ∷ []) (Exit (pos 0))

abbrev pub break_through_finally_row : Type 0
break_through_finally_row =
    Prints break_through_finally_text break_through_finally false (pos 0) 1000
    (events.Put (pos 0) ∷ events.Put (pos 1) ∷ []) (Exit (pos 1))

abbrev pub return_through_two_finallys_row : Type 0
return_through_two_finallys_row =
    Prints return_through_two_finallys_text return_through_two_finallys true (pos 0) 1000
    (events.Finally 1 true ∷ events.Put (pos 1) ∷ events.Finally 2 true ∷ events.Put (pos 2)
    ∷ []) (Exit (pos 4))

abbrev pub target_in_outer_activation_row : Type 0
target_in_outer_activation_row =
    Prints target_in_outer_activation_text target_in_outer_activation false (pos 0) 1000
    (events.Put (pos 10) ∷ events.Put (pos 1) ∷ events.Put (pos 11) ∷ []) (Exit (pos 0))

abbrev pub filter_asked_once_under_collision_row : Type 0
filter_asked_once_under_collision_row =
    Prints filter_asked_once_under_collision_text filter_asked_once_under_collision true
    (pos 0) 1000 (events.Raise (record { 0 = 3758096385 }) false None ∷ events.Filter 1
    ∷ events.Answer (pos 0) ∷ events.Finally 2 true
    ∷ events.Raise (record { 0 = 3758096386 }) false None
    ∷ events.Except (record { 0 = 3758096386 }) ∷ events.Put (pos 1) ∷ []) (Exit (pos 0))

abbrev pub collided_twice_row : Type 0
collided_twice_row =
    Prints collided_twice_text collided_twice true (pos 0) 1000
    (events.Raise (record { 0 = 3758096385 }) false None ∷ events.Filter 3
    ∷ events.Answer (pos 0) ∷ events.Finally 1 true
    ∷ events.Raise (record { 0 = 3758096386 }) false None ∷ events.Filter 3 ∷ events.Answer (pos 0)
    ∷ events.Finally 2 true ∷ events.Raise (record { 0 = 3758096387 }) false None ∷ events.Filter 3
    ∷ events.Answer (pos 1) ∷ events.Except (record { 0 = 3758096387 }) ∷ events.Put (pos 3) ∷ [])
    (Exit (pos 0))

abbrev pub vectored_handler_asked_first_row : Type 0
vectored_handler_asked_first_row =
    Prints vectored_handler_asked_first_text vectored_handler_asked_first true (pos 0) 1000
    (events.Raise (record { 0 = 3758096385 }) false None ∷ events.Put (pos 1) ∷ events.Filter 1
    ∷ events.Answer (pos 2) ∷ events.Except (record { 0 = 3758096385 }) ∷ events.Put (pos 3) ∷ [])
    (Exit (pos 0))

abbrev pub vectored_handler_continues_row : Type 0
vectored_handler_continues_row =
    Prints vectored_handler_continues_text vectored_handler_continues false (pos 0) 1000
    (events.Put (pos 0) ∷ []) (Exit (pos 0))
