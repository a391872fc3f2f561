use Rattle.unwind_check.proofs.FragmentEntries.{right_fragments_keep_rules}
use Rattle.unwind_check.proofs.RightEntries.{right_functions_keep_rules}
use Rattle.unwind_check.proofs.laws.right_functions.Goals as goal

pub returns-clause-functions : goal.returns-clause-functions
returns-clause-functions c = right_functions_keep_rules

pub returns-clause-fragments : goal.returns-clause-fragments
returns-clause-fragments c = right_fragments_keep_rules
