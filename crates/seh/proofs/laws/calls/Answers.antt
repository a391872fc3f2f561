use Rattle.seh.proofs.Calls.{compile_is_complete, run_is_complete, meaning_is_complete, show_is_complete, check_is_complete, exec_is_complete}
use Rattle.seh.proofs.EntryCalls.{entry_check_is_complete}
use Rattle.seh.proofs.laws.calls.Goals as goal

pub returns : goal.returns
returns c = record {
  compile = compile_is_complete;
  run = run_is_complete;
  meaning = meaning_is_complete;
  show = show_is_complete;
  check = check_is_complete;
  check_entries = entry_check_is_complete;
  exec = exec_is_complete;
}
