use Rattle.worked_programs.proofs.StackRows.{address_and_array, zero_first, elements_are_steps, bytes_are_steps, pointer_is_reserved, parts_of_calls, parts_left_by_exception, stack_rows_are_sound}
use Rattle.worked_programs.proofs.stack_rows.rows.Goals as goal

pub returns : goal.returns
returns c =
    record {
      address_and_array = address_and_array;
      zero_first = zero_first;
      elements_are_steps = elements_are_steps;
      bytes_are_steps = bytes_are_steps;
      pointer_is_reserved = pointer_is_reserved;
      parts_of_calls = parts_of_calls;
      parts_left_by_exception = parts_left_by_exception;
      sound = stack_rows_are_sound;
    }
