use Rattle.seh.proofs.EntryFrames.{yes_lines_find_callers, first_no_is_of_check}
use Rattle.seh.proofs.OneStatus.{statuses_agree}
use Rattle.seh.proofs.OneTextOfEntries.{entries_have_one_verdict_each}
use Rattle.seh.proofs.laws.checked_entries.Goals as goal

pub returns : goal.returns
returns c = record {
  one_verdict_each = entries_have_one_verdict_each;
  statuses = statuses_agree;
  first_no = first_no_is_of_check;
  callers = yes_lines_find_callers;
}
