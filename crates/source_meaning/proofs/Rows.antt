-- The worked programs, computed.
use Rattle.std.proofs.Common.{refl}
use Rattle.source_meaning.specs.Words.{computed}
use Rattle.source_meaning.specs.Rows.{SumAndReturn, NullStoreCaught, FilterThenFinally, ContinueSameOperand, ReturnAndLeaveFlags, DivisionFaultsUnhandled, RaiseInFilter, RaiseInFinally, ContinueNoncontinuable}

pub sum_and_return : SumAndReturn
unfolding computed
sum_and_return =
    record {
      within_0 = refl;
      within_1 = refl;
      within_6 = refl;
      within_7 = refl;
      within_8 = refl;
      within_9 = refl;
    }

pub null_store_caught : NullStoreCaught
unfolding computed
null_store_caught = refl

pub filter_then_finally : FilterThenFinally
unfolding computed
filter_then_finally = refl

pub continue_same_operand : ContinueSameOperand
unfolding computed
continue_same_operand = refl

pub return_and_leave_flags : ReturnAndLeaveFlags
unfolding computed
return_and_leave_flags = (refl, refl)

pub division_faults_unhandled : DivisionFaultsUnhandled
unfolding computed
division_faults_unhandled = (refl, refl)

pub raise_in_filter : RaiseInFilter
unfolding computed
raise_in_filter = refl

pub raise_in_finally : RaiseInFinally
unfolding computed
raise_in_finally = refl

pub continue_noncontinuable : ContinueNoncontinuable
unfolding computed
continue_noncontinuable = refl
