use Rattle.entry_states.proofs.Rows.{stand_rows, state_rows}
use Rattle.entry_states.proofs.laws.rows.Goals as goal

pub returns : goal.returns
returns c = record { stand = stand_rows; states = state_rows }
