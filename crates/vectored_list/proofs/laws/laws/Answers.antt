use Rattle.vectored_list.proofs.Proper.{adding_stays_proper, removing_stays_proper, removed_is_gone}
use Rattle.vectored_list.proofs.laws.laws.Goals as goal

pub returns : goal.returns
returns c = record {
  adding = adding_stays_proper;
  removing = removing_stays_proper;
  gone = removed_is_gone;
}
