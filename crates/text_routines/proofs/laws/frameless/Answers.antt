use Rattle.text_routines.proofs.TextPieces.{linked_routines_are_frameless}
use Rattle.text_routines.proofs.laws.frameless.Goals as goal

pub returns : goal.returns
returns c = linked_routines_are_frameless
