use Rattle.source_meaning.proofs.VectoredRows.{vectored_handler_asked_first}
use Rattle.source_meaning.proofs.VectoredRows.{vectored_handler_continues}
use Rattle.source_meaning.proofs.VectoredRows.{vectored_handler_asked_again}
use Rattle.source_meaning.proofs.VectoredRows.{vectored_rows_are_sound}
use Rattle.source_meaning.proofs.laws.vectored_rows.Goals as goal

pub returns : goal.returns
returns c =
    record {
      asked_first = vectored_handler_asked_first;
      continues = vectored_handler_continues;
      asked_again = vectored_handler_asked_again;
      sound = vectored_rows_are_sound;
    }
