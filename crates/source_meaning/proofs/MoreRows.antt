-- The further worked programs, computed.
use Rattle.std.proofs.Common.{refl}
use Rattle.source_meaning.specs.Words.{computed}
use Rattle.source_meaning.specs.MoreRows.{FilterAskedOnceUnderCollision, CollidedTwice, TargetInOuterActivation, TwoFiltersOfOneFault, BreakThroughFinally, ReturnThroughTwoFinallys, StoreAcrossPages, FaultAddressInFilter, UndefinedReservedAccess, ConversionsAndShifts, Operators, SixArguments, SumToArgument, Loops, DeepRecursion}

pub filter_asked_once_under_collision : FilterAskedOnceUnderCollision
unfolding computed
filter_asked_once_under_collision = refl

pub collided_twice : CollidedTwice
unfolding computed
collided_twice = refl

pub target_in_outer_activation : TargetInOuterActivation
unfolding computed
target_in_outer_activation = refl

pub two_filters_of_one_fault : TwoFiltersOfOneFault
unfolding computed
two_filters_of_one_fault = refl

pub break_through_finally : BreakThroughFinally
unfolding computed
break_through_finally = refl

pub return_through_two_finallys : ReturnThroughTwoFinallys
unfolding computed
return_through_two_finallys = refl

pub store_across_pages : StoreAcrossPages
unfolding computed
store_across_pages = refl

pub fault_address_in_filter : FaultAddressInFilter
unfolding computed
fault_address_in_filter = refl

pub undefined_reserved_access : UndefinedReservedAccess
unfolding computed
undefined_reserved_access = refl

pub conversions_and_shifts : ConversionsAndShifts
unfolding computed
conversions_and_shifts = refl

pub operators : Operators
unfolding computed
operators = refl

pub six_arguments : SixArguments
unfolding computed
six_arguments = refl

pub sum_to_argument : SumToArgument
unfolding computed
sum_to_argument = (refl, refl)

pub loops : Loops
unfolding computed
loops = refl

pub deep_recursion : DeepRecursion
unfolding computed
deep_recursion = record { deep = refl; endless = refl; at_the_last = refl; before = refl }
