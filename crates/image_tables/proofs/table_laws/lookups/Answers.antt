use Rattle.image_tables.proofs.Lookups.{entries_are_held, parts_are_held, leaves_are_held_by_none, thunks_are_held_by_none}
use Rattle.image_tables.proofs.table_laws.lookups.Goals as goal

pub returns : goal.returns
returns c = record {
  entries = entries_are_held;
  parts = parts_are_held;
  leaves = leaves_are_held_by_none;
  thunks = thunks_are_held_by_none;
}
