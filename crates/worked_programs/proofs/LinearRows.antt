-- The worked programs and their linear code, computed.
use Rattle.std.proofs.Common.{refl}
use Rattle.source_meaning.specs.Meaning.{computed}
use Rattle.linear_machine.specs.Run.{computed_linear}
use Rattle.worked_programs.specs.LeftActivations.{LeftActivations}
use Rattle.worked_programs.specs.LinearRows.{SumAndReturn, NullStoreCaught, FilterThenFinally, ContinueSameOperand, ReturnFlags, LeaveFlags, DivisionFaults, DivisionByZero, RaiseInFilter, RaiseInFinally, ContinueNoncontinuable, FilterAskedOnce, CollidedTwice, WalkInFilter, WalkAfterCollision, TargetInOuterActivation, TwoFilters, BreakThroughFinally, ReturnThroughTwo, StoreAcrossPages, FaultAddress, ReservedAccess, Conversions, Operators, SixArguments, Loops, DeepRecursion, EndlessRecursion, AskedFirst, HandlerContinues, AskedAgain, SumToArgument}

pub sum_and_return : SumAndReturn
unfolding computed computed_linear
sum_and_return = refl

pub null_store_caught : NullStoreCaught
unfolding computed computed_linear
null_store_caught = refl

pub filter_then_finally : FilterThenFinally
unfolding computed computed_linear
filter_then_finally = refl

pub continue_same_operand : ContinueSameOperand
unfolding computed computed_linear
continue_same_operand = refl

pub return_flags : ReturnFlags
unfolding computed computed_linear
return_flags = refl

pub leave_flags : LeaveFlags
unfolding computed computed_linear
leave_flags = refl

pub division_faults : DivisionFaults
unfolding computed computed_linear
division_faults = refl

pub division_by_zero : DivisionByZero
unfolding computed computed_linear
division_by_zero = refl

pub raise_in_filter : RaiseInFilter
unfolding computed computed_linear
raise_in_filter = refl

pub raise_in_finally : RaiseInFinally
unfolding computed computed_linear
raise_in_finally = refl

pub continue_noncontinuable : ContinueNoncontinuable
unfolding computed computed_linear
continue_noncontinuable = refl

pub filter_asked_once : FilterAskedOnce
unfolding computed computed_linear
filter_asked_once = refl

pub collided_twice : CollidedTwice
unfolding computed computed_linear
collided_twice = refl

pub walk_in_filter : WalkInFilter
unfolding computed computed_linear
walk_in_filter = refl

pub walk_after_collision : WalkAfterCollision
unfolding computed computed_linear
walk_after_collision = refl

pub target_in_outer_activation : TargetInOuterActivation
unfolding computed computed_linear
target_in_outer_activation = refl

pub two_filters : TwoFilters
unfolding computed computed_linear
two_filters = refl

pub break_through_finally : BreakThroughFinally
unfolding computed computed_linear
break_through_finally = refl

pub return_through_two : ReturnThroughTwo
unfolding computed computed_linear
return_through_two = refl

pub store_across_pages : StoreAcrossPages
unfolding computed computed_linear
store_across_pages = refl

pub fault_address : FaultAddress
unfolding computed computed_linear
fault_address = refl

pub reserved_access : ReservedAccess
unfolding computed computed_linear
reserved_access = refl

pub conversions : Conversions
unfolding computed computed_linear
conversions = refl

pub operators : Operators
unfolding computed computed_linear
operators = refl

pub six_arguments : SixArguments
unfolding computed computed_linear
six_arguments = refl

pub loops : Loops
unfolding computed computed_linear
loops = refl

pub deep_recursion : DeepRecursion
unfolding computed computed_linear
deep_recursion = refl

pub endless_recursion : EndlessRecursion
unfolding computed computed_linear
endless_recursion = refl

pub asked_first : AskedFirst
unfolding computed computed_linear
asked_first = refl

pub handler_continues : HandlerContinues
unfolding computed computed_linear
handler_continues = refl

pub asked_again : AskedAgain
unfolding computed computed_linear
asked_again = refl

pub sum_to_argument : SumToArgument
unfolding computed computed_linear
sum_to_argument = (refl, refl)

pub left_activations : LeftActivations
unfolding computed computed_linear
left_activations = ((refl, refl), (refl, refl))
