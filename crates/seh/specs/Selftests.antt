-- What comes of the generated program of a number: the summary of its run.
--
-- The main definitions: `summary`, `summary_by`, `IsSelftestAnswer`.
use Rattle.std.specs.Prelude.{ℕ, List, ◌++◌, length, codes, min, false, pos, Option, Result}
use Rattle.seh_num.specs.declared.end.RunEnd.{RunEnd}
use Rattle.seh_num.specs.Shown.{Shown}
use Rattle.seh_io.specs.Streams.{last_count}
use Rattle.seh_io.specs.Text.{text, ended}
use Rattle.seh_host.specs.Turns.{end_within}
use Rattle.generated_program.specs.GeneratedText.{generated}
use Rattle.command_line.specs.declared.command.RunOptions.{RunOptions}
use Rattle.seh.specs.declared.outcome.CommandOutcome.{CommandOutcome}
use Rattle.seh.specs.declared.refusal.Refusal.{Refusal}
use Rattle.seh.specs.Answers.{Judged, shown_by, end_by, names_by, IsWrittenRun, IsImageAnswer}
use Rattle.seh.specs.Refusals.{named}
use Rattle.seh.specs.Streams.{Stream}

-- the line of a program's number
abbrev pub program_line : ℕ → List ℕ
program_line n = ended (named (codes "selftest ") n)

-- the line of so many events; the count stays at its last value
abbrev pub events_line : ℕ → List ℕ
events_line events = ended (named (codes "events ") (min events last_count))

-- the summary of a program: its number, the text of its run, and how many events there were
abbrev pub summary : ℕ → List ℕ → ℕ → List ℕ
summary n text events = program_line n ++ (text ++ events_line events)

-- the summary of what is shown within so many turns: its text has no trace, and its events of all
-- kinds are counted
abbrev pub summary_of : ℕ → ℕ → (ℕ → Option (List ℕ)) → Shown RunEnd → List ℕ
summary_of turns n names shown =
    summary n (text shown.events (end_within turns shown.end) false names)
    (length shown.events)

-- a generated program is run with argument 0 and without a trace
abbrev pub selftest_options : ℕ → RunOptions
selftest_options turns = record { turns = turns; argument = pos 0; trace = false }

-- that of an image's run with argument 0, with its text without trace and the number of its events
-- of all kinds
abbrev pub summary_by : ℕ → ℕ → List ℕ → List ℕ
summary_by turns n image =
    summary_of turns n (names_by image) (shown_by (selftest_options turns) image)

-- what comes of an image that is run for its summary
abbrev pub IsSummaryAnswer : ℕ → ℕ → Judged
IsSummaryAnswer turns n = IsWrittenRun (summary_by turns n) (end_by (selftest_options turns))

-- what comes of the generated program of a number, which is run for at most so many turns: what
-- comes of an image of its text, or the refusal of the text
abbrev pub IsSelftestAnswer : ℕ → ℕ → Stream → Stream → Result CommandOutcome Refusal → Type 0
IsSelftestAnswer turns n out out' answer =
    IsImageAnswer (IsSummaryAnswer turns n) (generated n) out out' answer
