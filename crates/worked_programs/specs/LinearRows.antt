-- Worked programs: their linear code shows what they mean.
use Rattle.std.specs.Prelude.{◌≡◌, ℕ, ◌+◌, ◌*◌, pos}
use Rattle.c_checked.specs.Program.{Program}
use Rattle.source_meaning.specs.Meaning.{meaning}
use Rattle.source_meaning.specs.Rows.{sum_and_return, null_store_caught, filter_then_finally, continue_same_operand, return_flags, leave_flags, division_faults, division_by_zero, raise_in_filter, raise_in_finally, continue_noncontinuable}
use Rattle.source_meaning.specs.MoreRows.{filter_asked_once, collided_twice, target_in_outer_activation, two_filters, break_through_finally, return_through_two, store_across_pages, fault_address, reserved_access, conversions, operators, six_arguments, loops, deep_recursion, endless_recursion, sum_to_argument}
use Rattle.source_meaning.specs.WalkRows.{walk_in_filter, walk_after_collision}
use Rattle.source_meaning.specs.VectoredRows.{asked_first, continues, asked_again}
use Rattle.linear_machine.specs.Run.{linear_meaning}
use Rattle.seh_ir.specs.Lowered.{lowered}

-- the events of so many steps and the end, in three turns a step and three more
abbrev pub Agrees : Program → ℕ → ℕ → Type 0
Agrees p arg n = linear_meaning (lowered p) (pos arg) (3 * n + 3) ≡ meaning p (pos arg) n

abbrev pub SumAndReturn : Type 0
SumAndReturn = Agrees sum_and_return 0 50

abbrev pub NullStoreCaught : Type 0
NullStoreCaught = Agrees null_store_caught 0 50

abbrev pub FilterThenFinally : Type 0
FilterThenFinally = Agrees filter_then_finally 0 50

abbrev pub ContinueSameOperand : Type 0
ContinueSameOperand = Agrees continue_same_operand 0 100

abbrev pub ReturnFlags : Type 0
ReturnFlags = Agrees return_flags 0 50

abbrev pub LeaveFlags : Type 0
LeaveFlags = Agrees leave_flags 0 50

abbrev pub DivisionFaults : Type 0
DivisionFaults = Agrees division_faults 0 100

abbrev pub DivisionByZero : Type 0
DivisionByZero = Agrees division_by_zero 0 50

abbrev pub RaiseInFilter : Type 0
RaiseInFilter = Agrees raise_in_filter 0 100

abbrev pub RaiseInFinally : Type 0
RaiseInFinally = Agrees raise_in_finally 0 100

abbrev pub ContinueNoncontinuable : Type 0
ContinueNoncontinuable = Agrees continue_noncontinuable 0 100

abbrev pub FilterAskedOnce : Type 0
FilterAskedOnce = Agrees filter_asked_once 0 100

abbrev pub CollidedTwice : Type 0
CollidedTwice = Agrees collided_twice 0 100

abbrev pub WalkInFilter : Type 0
WalkInFilter = Agrees walk_in_filter 0 100

abbrev pub WalkAfterCollision : Type 0
WalkAfterCollision = Agrees walk_after_collision 0 100

abbrev pub TargetInOuterActivation : Type 0
TargetInOuterActivation = Agrees target_in_outer_activation 0 100

abbrev pub TwoFilters : Type 0
TwoFilters = Agrees two_filters 0 100

abbrev pub BreakThroughFinally : Type 0
BreakThroughFinally = Agrees break_through_finally 0 100

abbrev pub ReturnThroughTwo : Type 0
ReturnThroughTwo = Agrees return_through_two 0 100

abbrev pub StoreAcrossPages : Type 0
StoreAcrossPages = Agrees store_across_pages 0 100

abbrev pub FaultAddress : Type 0
FaultAddress = Agrees fault_address 0 100

abbrev pub ReservedAccess : Type 0
ReservedAccess = Agrees reserved_access 0 100

abbrev pub Conversions : Type 0
Conversions = Agrees conversions 0 100

abbrev pub Operators : Type 0
Operators = Agrees operators 0 200

abbrev pub SixArguments : Type 0
SixArguments = Agrees six_arguments 0 100

abbrev pub Loops : Type 0
Loops = Agrees loops 0 1000

abbrev pub DeepRecursion : Type 0
DeepRecursion = Agrees deep_recursion 0 1000

abbrev pub EndlessRecursion : Type 0
EndlessRecursion = Agrees endless_recursion 0 10000

abbrev pub AskedFirst : Type 0
AskedFirst = Agrees asked_first 0 100

abbrev pub HandlerContinues : Type 0
HandlerContinues = Agrees continues 0 100

abbrev pub AskedAgain : Type 0
AskedAgain = Agrees asked_again 0 100

-- within fewer steps too, and with an argument
abbrev pub SumToArgument : Type 0
SumToArgument = Agrees sum_to_argument 0 20 × Agrees sum_to_argument 9 300
