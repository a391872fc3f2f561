use Rattle.eh_write.proofs.InfosAgain.{reads_info, reads_scopes}
use Rattle.eh_write.proofs.TablesAgain.{reads_ranges}
use Rattle.eh_write.proofs.WholeAgain.{reads_table}
use Rattle.eh_write.proofs.laws.read_again.Goals as goal

pub returns : goal.returns
returns c = record {
  infos = reads_info;
  scopes = reads_scopes;
  ranges = reads_ranges;
  table = reads_table;
}
