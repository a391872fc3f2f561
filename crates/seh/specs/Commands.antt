-- Which answer a call of the program has, and by what cause.
--
-- The main definition: `Answers`.
use Rattle.std.specs.Prelude.{◌≡◌, ◌⊎◌, ℕ, List, Result, Err}
use Rattle.command_line.specs.declared.command.Command.{Command}
use Rattle.command_line.specs.declared.command.CheckReport.TheVariants.{Whole, Each}
use Rattle.command_line.specs.declared.command.Command.TheVariants.{Compile, Exec, Run, Meaning, Show, Check, Selftest}
use Rattle.command_line.specs.declared.reading.TheConstants.{DEFAULT_TURNS}
use Rattle.command_line.specs.Lines.{IsLine, IsNoLine}
use Rattle.seh.specs.declared.outcome.CommandOutcome.{CommandOutcome}
use Rattle.seh.specs.declared.status.Status.{Status}
use Rattle.seh.specs.declared.refusal.Refusal.{Refusal}
use Rattle.seh.specs.declared.refusal.Refusal.TheVariants as refusals
use Rattle.seh.specs.Answers.{text_limit, image_limit, Unwritten, IsInputAnswer, IsRunAnswer, IsShowAnswer, IsCompileAnswer, IsTextRunAnswer}
use Rattle.seh.specs.Checks.{IsCheckAnswer}
use Rattle.seh.specs.EntryChecks.{IsEntriesAnswer}
use Rattle.seh.specs.Meanings.{IsMeaningInputAnswer}
use Rattle.seh.specs.Refusals.{Reported}
use Rattle.seh.specs.Selftests.{IsSelftestAnswer}
use Rattle.seh.specs.Streams.{Stream}

-- nothing was read
abbrev pub IsUnread : Stream → Stream → Type 0
IsUnread source source' = source' ≡ source

abbrev pub IsCommandAnswer : Command → Stream → Stream → Stream → Stream
    → Result CommandOutcome Refusal
    → Type 0
IsCommandAnswer Compile source source' out out' answer =
    IsInputAnswer text_limit IsCompileAnswer source source' out out' answer
IsCommandAnswer Show source source' out out' answer =
    IsInputAnswer image_limit IsShowAnswer source source' out out' answer
IsCommandAnswer (Check Whole) source source' out out' answer =
    IsInputAnswer image_limit IsCheckAnswer source source' out out' answer
IsCommandAnswer (Check Each) source source' out out' answer =
    IsInputAnswer image_limit IsEntriesAnswer source source' out out' answer
IsCommandAnswer (Exec options) source source' out out' answer =
    IsInputAnswer image_limit (IsRunAnswer options) source source' out out' answer
IsCommandAnswer (Run options) source source' out out' answer =
    IsInputAnswer text_limit (IsTextRunAnswer options) source source' out out' answer
IsCommandAnswer (Meaning options) source source' out out' answer =
    IsMeaningInputAnswer options source source' out out' answer
IsCommandAnswer (Selftest n) source source' out out' answer =
    IsUnread source source' × IsSelftestAnswer DEFAULT_TURNS n out out' answer

-- nothing was read, and nothing was written
abbrev pub Untouched : Stream → Stream → Stream → Stream → Type 0
Untouched source source' out out' = IsUnread source source' × Unwritten out out'

-- the words are no line of the command set, or mean a command that has this answer; or there was no
-- memory to read them
abbrev pub IsAnswer : List (List ℕ) → Stream → Stream → Stream → Stream
    → Result CommandOutcome Refusal
    → Type 0
IsAnswer words source source' out out' answer =
    ((answer ≡ Err refusals.Usage) × IsNoLine words × Untouched source source' out out')
    ⊎ (((command : Command) × IsLine words command
    × IsCommandAnswer command source source' out out' answer)
    ⊎ ((answer ≡ Err refusals.NoMemory) × Untouched source source' out out'))

-- which answer a call has, by its cause, and how it is reported. It is `usage` where the words are
-- no line of the command set, and then nothing is read. For `compile` the sink took an image with
-- IsCompiled, and a refusal of the text comes where `TextIsRefused` says so. For `run` the answer
-- is one of `exec` for an image with IsCompiled, or such a refusal of the text. For `selftest`
-- nothing is read, and `IsSelftestAnswer` of 10,000,000 turns is the answer. There is a read fault
-- only where the source's last read was one, and too long only where the source held more than the
-- limit. A refusal of an image is its first failing check, or the load's. There is a write fault
-- only where a sink's last write was one, and then a part of the text from the front was taken. No
-- other answer comes where a stream had a fault. Else the sink took exactly the text of `machine`
-- on the bytes that the source held, and the status is that of its end. Running out of memory alone
-- is free.
pub record Answers (words : List (List ℕ)) (source source' out out' err err' : Stream)
    (status : Status) : Type 0 where
  pub answer : Result CommandOutcome Refusal
  pub cause : IsAnswer words source source' out out' answer
  pub reported : Reported answer err err' status
