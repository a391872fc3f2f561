use Rattle.source_meaning.proofs.Rows.{sum_and_return, null_store_caught, filter_then_finally}
use Rattle.source_meaning.proofs.Rows.{continue_same_operand, return_and_leave_flags}
use Rattle.source_meaning.proofs.Rows.{division_faults_unhandled, raise_in_filter, raise_in_finally}
use Rattle.source_meaning.proofs.Rows.{continue_noncontinuable}
use Rattle.source_meaning.proofs.laws.rows.Goals as goal

pub returns : goal.returns
returns c =
    record {
      sum_and_return = sum_and_return;
      null_store_caught =
          null_store_caught;
      filter_then_finally = filter_then_finally;
      continue_same_operand =
          continue_same_operand;
      return_and_leave_flags =
          return_and_leave_flags;
      division_faults_unhandled = division_faults_unhandled;
      raise_in_filter =
          raise_in_filter;
      raise_in_finally = raise_in_finally;
      continue_noncontinuable =
          continue_noncontinuable;
    }
