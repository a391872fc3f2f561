-- Whole calls of the program in which no stream has a fault: what each command gives, and that
-- compiling and then running gives what the text means.
--
-- The main definition: `Asks`.
use Rattle.std.specs.Prelude.{◌≡◌, ◌⊎◌, ℕ, ◌^◌, ◌<◌, ◌≤◌, List, ◌++◌, length, pos, Some, Ok}
use Rattle.seh_num.specs.declared.end.RunEnd.{RunEnd}
use Rattle.seh_io.specs.Streams.{Grew, last_count}
use Rattle.seh_io.specs.Text.{end_line}
use Rattle.c_syntax.specs.Program.{ExternalDeclaration}
use Rattle.c_checked.specs.Program.{Program}
use Rattle.source_meaning.specs.Meaning.{meaning}
use Rattle.source_meaning.specs.declared.ended.Ended.{Ended}
use Rattle.c_meaning.specs.FunctionNames.{names_of}
use Rattle.c_meaning.specs.Texts as meanings
use Rattle.c_text.specs.Texts.{IsAccepted}
use Rattle.pe_image.specs.Image.{Image}
use Rattle.pe_image.specs.Reading.{IsImage}
use Rattle.table_view.specs.View.{view}
use Rattle.eh_tables.specs.Tables.{Entry, tables}
use Rattle.unwind_check.specs.declared.rule.Verdict.{Verdict}
use Rattle.image_code.specs.Verdicts.{IsImageVerdict}
use Rattle.x64_emit.specs.declared.entry.TheConstants.{CHECK_STACK}
use Rattle.match_runs.specs.Ends.{run_end}
use Rattle.command_line.specs.declared.command.Command.{Command}
use Rattle.command_line.specs.declared.command.CheckReport.TheVariants.{Whole}
use Rattle.command_line.specs.declared.command.Command.TheVariants.{Compile, Exec, Run, Meaning, Show, Check}
use Rattle.command_line.specs.declared.command.RunOptions.{RunOptions}
use Rattle.command_line.specs.Lines.{IsLine}
use Rattle.seh.specs.declared.status.Status.{Status}
use Rattle.seh.specs.declared.status.Status.TheVariants as statuses
use Rattle.seh.specs.Answers.{text_limit, image_limit, Loads, end_by, text_by}
use Rattle.seh.specs.Checks.{verdict_line}
use Rattle.seh.specs.Commands.{Answers}
use Rattle.seh.specs.Headline.{AreEnough}
use Rattle.seh.specs.Images.{IsCompiled}
use Rattle.seh.specs.Meanings.{IsProgramOf, shown_of, text_of}
use Rattle.seh.specs.Statuses.{status_of, meaning_status, verdict_status}
use Rattle.seh.specs.Streams.{Stream}

-- ---- calls

-- the streams before a call of the program and after it, and its status
pub record Call : Type 0 where
  pub words : List (List ℕ)
  pub source : Stream
  pub source_after : Stream
  pub out : Stream
  pub out_after : Stream
  pub err : Stream
  pub err_after : Stream
  pub status : Status

-- the stream had no fault in a call; a count at its last value couldn't tell
pub record HadNoFault (before after : Stream) : Type 0 where
  pub counts : after.faults.count < last_count
  pub same : after.faults.count ≡ before.faults.count

-- a call of the program with the words of a command, over a source that holds these bytes, in which
-- no stream has a fault. Then want of memory is the one free answer: `CompileIsComplete`,
-- `RunIsComplete`, `MeaningIsComplete`, `ShowIsComplete` and `ExecIsComplete` say what is written
-- otherwise, with which status.
pub record Asks (command : Command) (held : List ℕ) (call : Call) : Type 0 where
  pub answers : Answers call.words call.source call.source_after call.out call.out_after call.err
      call.err_after call.status
  pub line : IsLine call.words command
  pub holds : call.source.bytes ≡ Some held
  pub source : HadNoFault call.source call.source_after
  pub out : HadNoFault call.out call.out_after
  pub err : HadNoFault call.err call.err_after

-- the call ended with this status, and wrote these bytes and nothing else
pub record Gave (status : Status) (bytes : List ℕ) (call : Call) : Type 0 where
  pub ended : call.status ≡ status
  pub wrote : Grew call.out.bytes bytes call.out_after.bytes
  pub silent : call.err_after ≡ call.err

-- memory was wanting
abbrev pub WantedMemory : Call → Type 0
WantedMemory call = call.status ≡ statuses.NoMemory

-- ---- what each command gives, where memory isn't wanting

-- an accepted text: an image of it, and status 0
abbrev pub CompileIsComplete : Type 0
CompileIsComplete =
    (source : List ℕ) (whole : List ExternalDeclaration) (call : Call)
    → length source ≤ text_limit → IsAccepted source whole → Asks Compile source call
    → WantedMemory call
    ⊎ ((image : List ℕ) × IsCompiled source image × Gave statuses.Done image call)

-- an accepted text: the whole text of the run of an image of it, and the status of the run's end
abbrev pub RunIsComplete : Type 0
RunIsComplete =
    (source : List ℕ) (whole : List ExternalDeclaration) (options : RunOptions) (call : Call)
    → length source ≤ text_limit → IsAccepted source whole → Asks (Run options) source call
    → WantedMemory call
    ⊎ ((image : List ℕ) × IsCompiled source image
    × Gave (status_of (end_by options image)) (text_by options image) call)

-- an accepted text: the whole text of its meaning, and the status of the meaning's end
abbrev pub MeaningIsComplete : Type 0
MeaningIsComplete =
    (source : List ℕ) (p : Program) (options : RunOptions) (call : Call)
    → length source ≤ text_limit → IsProgramOf source p → Asks (Meaning options) source call
    → let ended = meanings.ended_within options.turns (shown_of options p).end in
    WantedMemory call ⊎ Gave (meaning_status ended) (text_of options p) call

-- an image: the whole view of its function table, and status 0
abbrev pub ShowIsComplete : Type 0
ShowIsComplete =
    (bytes : List ℕ) (image : Image) (call : Call)
    → length bytes ≤ image_limit → IsImage bytes image → Asks Show bytes call
    → WantedMemory call ⊎ Gave statuses.Done (view image) call

-- an image whose function table is read whole: the line of the verdict on it, and the verdict's
-- status
abbrev pub CheckIsComplete : Type 0
CheckIsComplete =
    (bytes : List ℕ) (image : Image) (entries : List Entry) (call : Call)
    → length bytes ≤ image_limit → IsImage bytes image → tables image ≡ Ok entries
    → Asks (Check Whole) bytes call
    → WantedMemory call
    ⊎ ((verdict : Verdict) × IsImageVerdict image CHECK_STACK verdict
    × Gave (verdict_status verdict) (verdict_line verdict) call)

-- an image that loads: the whole text of its run, and the status of the run's end
abbrev pub ExecIsComplete : Type 0
ExecIsComplete =
    (bytes : List ℕ) (options : RunOptions) (call : Call)
    → length bytes ≤ image_limit → Loads bytes → Asks (Exec options) bytes call
    → WantedMemory call ⊎ Gave (status_of (end_by options bytes)) (text_by options bytes) call

-- ---- texts and their images

-- a text has one image at most
abbrev pub TextsHaveOneImage : Type 0
TextsHaveOneImage = (source a b : List ℕ) → IsCompiled source a → IsCompiled source b → a ≡ b

-- the last line is the same in the text of a run and in that of a meaning, where both end so
abbrev pub LastLinesAgree : Type 0
LastLinesAgree =
    (ended : Ended) (e : RunEnd) → run_end ended ≡ Some e → meanings.ended_line ended ≡ end_line e

-- ---- from the text to what is written

-- within n steps the program ends by a return of `main` or by an exception that nobody handles
pub record EndsWithin (p : Program) (arg n : ℕ) : Type 0 where
  pub small : arg < 2 ^ 63
  pub ended : Ended
  pub is : (meaning p (pos arg) n).end ≡ Some ended
  pub end : RunEnd
  pub runs : run_end ended ≡ Some end

-- the call gave what the program means: its whole text, and the status of its end
abbrev pub GaveMeaning : (p : Program) (arg n : ℕ) → EndsWithin p arg n → RunOptions → Call → Type 0
GaveMeaning p arg n ends options call =
    Gave (meaning_status ends.ended)
    (meanings.text options.trace n (meaning p (pos arg) n) (names_of p)) call

-- the bytes that `out` took in a call
pub record Took (bytes : List ℕ) (call : Call) : Type 0 where
  pub before : List ℕ
  pub first : call.out.bytes ≡ Some before
  pub last : call.out_after.bytes ≡ Some (before ++ bytes)

-- `compile` of an accepted text, then `exec` of the bytes that it wrote: what the text means
abbrev pub CompiledIsMeant : Type 0
CompiledIsMeant =
    (source image : List ℕ) (p : Program) (options : RunOptions) (arg n : ℕ)
    (first second : Call)
    → length source ≤ text_limit → IsProgramOf source p → Asks Compile source first
    → first.status ≡ statuses.Done → Took image first → Asks (Exec options) image second
    → AreEnough options arg n → (ends : EndsWithin p arg n)
    → WantedMemory second ⊎ GaveMeaning p arg n ends options second

-- `run` of an accepted text: the same
abbrev pub RunIsMeant : Type 0
RunIsMeant =
    (source : List ℕ) (p : Program) (options : RunOptions) (arg n : ℕ) (call : Call)
    → length source ≤ text_limit → IsProgramOf source p → Asks (Run options) source call
    → AreEnough options arg n → (ends : EndsWithin p arg n)
    → WantedMemory call ⊎ GaveMeaning p arg n ends options call
