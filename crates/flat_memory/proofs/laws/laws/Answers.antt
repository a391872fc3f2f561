use Rattle.flat_memory.proofs.Stores.{loads_what_was_stored, leaves_others, keeps_modes, refusals_change_nothing}
use Rattle.flat_memory.proofs.laws.laws.Goals as goal

pub returns : goal.returns
returns c = record {
  loads = loads_what_was_stored;
  leaves = leaves_others;
  modes = keeps_modes;
  refusals = refusals_change_nothing;
}
