-- The numbers that the program ends with.
use Rattle.std.specs.Prelude.{ℕ, ◌==◌, if◌then◌else◌}
use Rattle.seh_num.specs.declared.end.RunEnd.{RunEnd}
use Rattle.seh_num.specs.declared.end.RunEnd.TheVariants as ends
use Rattle.source_meaning.specs.declared.ended.Ended.{Ended}
use Rattle.source_meaning.specs.declared.ended.Ended.TheVariants as meant
use Rattle.unwind_check.specs.declared.rule.Verdict.{Verdict}
use Rattle.unwind_check.specs.declared.rule.Verdict.TheVariants as verdicts
use Rattle.seh.specs.declared.outcome.CommandOutcome.{CommandOutcome}
use Rattle.seh.specs.declared.outcome.CommandOutcome.TheVariants.{Compiled, Ran, Meant, Viewed, Checked, CheckedEntries}
use Rattle.seh.specs.declared.status.Status.{Status}
use Rattle.seh.specs.declared.status.Status.TheVariants as statuses

abbrev pub code_of : Status → ℕ
code_of statuses.Done = 0
code_of statuses.Usage = 1
code_of statuses.Refused = 2
code_of statuses.Image = 3
code_of statuses.ReadFault = 4
code_of statuses.WriteFault = 5
code_of statuses.NoMemory = 6
code_of statuses.TooLong = 7
code_of statuses.Unhandled = 10
code_of statuses.StackLimit = 11
code_of statuses.OutOfTurns = 12
code_of statuses.Stopped = 13
code_of statuses.Undefined = 14
code_of statuses.Deep = 15
code_of statuses.No = 16

abbrev pub status_of : RunEnd → Status
status_of (ends.Exit v) = statuses.Done
status_of (ends.Unhandled c) = statuses.Unhandled
status_of (ends.StackLimit a) = statuses.StackLimit
status_of (ends.OutOfTurns n) = statuses.OutOfTurns
status_of (ends.Stopped why a) = statuses.Stopped

-- of the end of a program's meaning
abbrev pub meaning_status : Ended → Status
meaning_status (meant.Exit v) = statuses.Done
meaning_status (meant.Unhandled c) = statuses.Unhandled
meaning_status (meant.OutOfSteps n) = statuses.OutOfTurns
meaning_status (meant.Undefined a) = statuses.Undefined
meaning_status (meant.Deep d) = statuses.Deep

-- of a verdict on a function table
abbrev pub verdict_status : Verdict → Status
verdict_status (verdicts.Yes n) = statuses.Done
verdict_status (verdicts.No k fault) = statuses.No

-- of the entries of a function table, so many of which are without a fault
abbrev pub entries_status : ℕ → ℕ → Status
entries_status kept all = if kept == all then statuses.Done else statuses.No

abbrev pub outcome_status : CommandOutcome → Status
outcome_status Compiled = statuses.Done
outcome_status Viewed = statuses.Done
outcome_status (Ran end) = status_of end
outcome_status (Meant ended) = meaning_status ended
outcome_status (Checked verdict) = verdict_status verdict
outcome_status (CheckedEntries kept all) = entries_status kept all
