-- The worked programs are sound, computed.
use Rattle.std.proofs.Common.{refl}
use Rattle.source_meaning.specs.SoundRows.{RowsAreSound}

pub rows_are_sound : RowsAreSound
rows_are_sound =
    record {
      sum_and_return = refl;
      null_store_caught = refl;
      filter_then_finally = refl;
      continue_same_operand = refl;
      return_flags = refl;
      leave_flags = refl;
      division_faults = refl;
      division_by_zero = refl;
      raise_in_filter = refl;
      raise_in_finally = refl;
      continue_noncontinuable = refl;
      filter_asked_once = refl;
      collided_twice = refl;
      target_in_outer_activation = refl;
      two_filters = refl;
      break_through_finally = refl;
      return_through_two = refl;
      store_across_pages = refl;
      fault_address = refl;
      reserved_access = refl;
      conversions = refl;
      operators = refl;
      six_arguments = refl;
      sum_to_argument = refl;
      loops = refl;
      deep_recursion = refl;
      endless_recursion = refl;
    }
