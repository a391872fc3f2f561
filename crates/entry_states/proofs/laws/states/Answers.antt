use Rattle.entry_states.proofs.Entries.{entries_begin, fragments_begin}
use Rattle.entry_states.proofs.Parts.{parts_begin, parts_continue}
use Rattle.entry_states.proofs.laws.states.Goals as goal

pub returns : goal.returns
returns c = record {
  begin = parts_begin;
  continue_ = parts_continue;
  entries = entries_begin;
  fragments = fragments_begin;
}
