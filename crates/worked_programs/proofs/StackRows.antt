-- The worked programs with variables on the data stack, computed.
use Rattle.std.proofs.Common.{refl}
use Rattle.source_meaning.specs.Meaning.{computed}
use Rattle.linear_machine.specs.Run.{computed_linear}
use Rattle.worked_programs.specs.StackRows.{AddressAndArray, ZeroFirst, ElementsAreSteps, BytesAreSteps, PointerIsReserved, PartsOfCalls, PartsLeftByException, StackRowsAreSound}

pub address_and_array : AddressAndArray
unfolding computed computed_linear
address_and_array = (refl, refl)

pub zero_first : ZeroFirst
unfolding computed computed_linear
zero_first = (refl, refl)

pub elements_are_steps : ElementsAreSteps
unfolding computed computed_linear
elements_are_steps = record { within_7 = refl; within_8 = (refl, refl) }

pub bytes_are_steps : BytesAreSteps
unfolding computed computed_linear
bytes_are_steps = record { within_3 = refl; within_4 = (refl, refl) }

pub pointer_is_reserved : PointerIsReserved
unfolding computed computed_linear
pointer_is_reserved = (refl, refl)

pub parts_of_calls : PartsOfCalls
unfolding computed computed_linear
parts_of_calls = (refl, refl)

pub parts_left_by_exception : PartsLeftByException
unfolding computed computed_linear
parts_left_by_exception = (refl, refl)

pub stack_rows_are_sound : StackRowsAreSound
stack_rows_are_sound =
    record {
      address_and_array = refl;
      zero_first = refl;
      array_alone = refl;
      large_part = refl;
      pointer_is_reserved = refl;
      parts_of_calls = refl;
      parts_left_by_exception = refl;
    }
