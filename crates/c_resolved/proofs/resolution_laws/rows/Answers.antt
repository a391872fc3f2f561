use Rattle.c_resolved.proofs.Rows.{char_and_int, pointer_and_index, pointer_and_zero, changes, calls, handlers, address_of_local, faults}
use Rattle.c_resolved.proofs.resolution_laws.rows.Goals as goal

pub returns : goal.returns
returns c = record {
  char_and_int = char_and_int;
  pointer_and_index = pointer_and_index;
  pointer_and_zero = pointer_and_zero;
  changes = changes;
  calls = calls;
  handlers = handlers;
  address_of_local = address_of_local;
  faults = faults;
}
