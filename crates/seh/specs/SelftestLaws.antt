-- Whole calls of `selftest` in which no sink has a fault.
--
-- The main definition: `AsksSelftest`.
use Rattle.std.specs.Prelude.{◌⊎◌, ℕ, ◌+◌, ◌*◌, ◌≤◌, List, length, false, pos, Option}
use Rattle.seh_num.specs.Shown.{Shown}
use Rattle.c_syntax.specs.Program.{ExternalDeclaration}
use Rattle.c_checked.specs.Program.{Program}
use Rattle.c_meaning.specs.FunctionNames.{names_of}
use Rattle.c_meaning.specs.Texts as meanings
use Rattle.c_text.specs.Texts.{IsAccepted}
use Rattle.generated_program.specs.GeneratedText.{generated}
use Rattle.source_meaning.specs.Meaning.{meaning}
use Rattle.source_meaning.specs.declared.ended.Ended.{Ended}
use Rattle.command_line.specs.declared.command.Command.TheVariants.{Selftest}
use Rattle.command_line.specs.declared.reading.TheConstants.{DEFAULT_TURNS}
use Rattle.command_line.specs.Lines.{IsLine}
use Rattle.seh.specs.Answers.{end_by}
use Rattle.seh.specs.Calls.{Call, HadNoFault, EndsWithin, Gave, WantedMemory}
use Rattle.seh.specs.Commands.{Answers, IsUnread}
use Rattle.seh.specs.Images.{IsCompiled}
use Rattle.seh.specs.Meanings.{IsProgramOf}
use Rattle.seh.specs.Selftests.{selftest_options, summary, summary_by}
use Rattle.seh.specs.Statuses.{status_of, meaning_status}

-- a call with the words `selftest N`, whatever its source holds, without a fault of a sink
pub record AsksSelftest (n : ℕ) (call : Call) : Type 0 where
  pub answers : Answers call.words call.source call.source_after call.out call.out_after call.err
      call.err_after call.status
  pub line : IsLine call.words (Selftest n)
  pub out : HadNoFault call.out call.out_after
  pub err : HadNoFault call.err call.err_after

-- nothing is read
abbrev pub SelftestReadsNothing : Type 0
SelftestReadsNothing =
    (n : ℕ) (call : Call) → AsksSelftest n call → IsUnread call.source call.source_after

-- the call gave the whole summary of the run of an image of the generated program, and the status
-- of the run's end
pub record GaveSummary (turns n : ℕ) (call : Call) : Type 0 where
  pub image : List ℕ
  pub compiled : IsCompiled (generated n) image
  pub gave : Gave (status_of (end_by (selftest_options turns) image)) (summary_by turns n image)
      call

-- where the text of the generated program is accepted
abbrev pub SelftestIsComplete : Type 0
SelftestIsComplete =
    (n : ℕ) (whole : List ExternalDeclaration) (call : Call)
    → IsAccepted (generated n) whole → AsksSelftest n call
    → WantedMemory call ⊎ GaveSummary DEFAULT_TURNS n call

-- the summary of what a program means within so many steps
abbrev pub meant_summary : ℕ → ℕ → Shown Ended → (ℕ → Option (List ℕ)) → List ℕ
meant_summary n steps shown names =
    summary n (meanings.text false steps shown names) (length shown.events)

-- and where it ends within so many steps, with turns enough, the summary is that of its meaning
abbrev pub SelftestIsMeant : Type 0
SelftestIsMeant =
    (n steps : ℕ) (p : Program) (call : Call)
    → IsProgramOf (generated n) p → AsksSelftest n call → 256 * steps + 256 ≤ DEFAULT_TURNS
    → (ends : EndsWithin p 0 steps)
    → WantedMemory call
    ⊎ Gave (meaning_status ends.ended)
    (meant_summary n steps (meaning p (pos 0) steps) (names_of p)) call
