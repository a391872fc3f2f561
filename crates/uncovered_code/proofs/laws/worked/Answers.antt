use Rattle.uncovered_code.proofs.Rows.{loses_rbx, refers_row}
use Rattle.uncovered_code.proofs.laws.worked.Goals as goal

pub returns : goal.returns
returns c = record { loses_rbx = loses_rbx; refers = refers_row }
