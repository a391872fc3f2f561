-- The worked programs with vectored handlers, computed.
use Rattle.std.proofs.Common.{refl}
use Rattle.source_meaning.specs.Words.{computed}
use Rattle.source_meaning.specs.VectoredRows.{VectoredHandlerAskedFirst, VectoredHandlerContinues}
use Rattle.source_meaning.specs.VectoredRows.{VectoredHandlerAskedAgain, VectoredRowsAreSound}

pub vectored_handler_asked_first : VectoredHandlerAskedFirst
unfolding computed
vectored_handler_asked_first = refl

pub vectored_handler_continues : VectoredHandlerContinues
unfolding computed
vectored_handler_continues = refl

pub vectored_handler_asked_again : VectoredHandlerAskedAgain
unfolding computed
vectored_handler_asked_again = refl

pub vectored_rows_are_sound : VectoredRowsAreSound
vectored_rows_are_sound = record { asked_first = refl; continues = refl; asked_again = refl }
