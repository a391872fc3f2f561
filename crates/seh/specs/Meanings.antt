-- What comes of a text that is run as its meaning says.
use Rattle.std.specs.Prelude.{◌≡◌, ◌⊎◌, ℕ, List, Result, Ok, Err}
use Rattle.seh_num.specs.Shown.{Shown}
use Rattle.seh_io.specs.Streams.{Faultless}
use Rattle.c_syntax.specs.Program.{ExternalDeclaration}
use Rattle.c_checked.specs.Program.{Program}
use Rattle.source_meaning.specs.Meaning as model
use Rattle.source_meaning.specs.declared.ended.Ended.{Ended}
use Rattle.c_text.specs.Texts.{IsCheckedAs, TextIsRefused}
use Rattle.c_meaning.specs.FunctionNames.{names_of}
use Rattle.c_meaning.specs.Texts as texts
use Rattle.c_meaning.specs.declared.interpret.MeanErr.TheVariants.{Memory}
use Rattle.command_line.specs.declared.command.RunOptions.{RunOptions}
use Rattle.seh.specs.declared.outcome.CommandOutcome.{CommandOutcome}
use Rattle.seh.specs.declared.outcome.CommandOutcome.TheVariants.{Meant}
use Rattle.seh.specs.declared.refusal.Refusal.{Refusal}
use Rattle.seh.specs.declared.refusal.Refusal.TheVariants as refusals
use Rattle.seh.specs.Answers.{text_limit, Unwritten, IsCutOff, Judged, IsInput, IsInputAnswer}
use Rattle.seh.specs.Streams.{Stream, TookWhole}

-- what a text means within the steps of the options, from their argument
abbrev pub shown_of : RunOptions → Program → Shown Ended
shown_of options p = model.meaning p options.argument options.turns

abbrev pub text_of : RunOptions → Program → List ℕ
text_of options p =
    texts.text options.trace options.turns (shown_of options p) (names_of p)

-- the text is accepted, and is this program
pub record IsProgramOf (text : List ℕ) (p : Program) : Type 0 where
  pub declarations : List ExternalDeclaration
  pub checked : IsCheckedAs text declarations p

-- a part of the text of the meaning was taken, from the front, and no write was a fault
pub record TookMeaningFront (options : RunOptions) (text : List ℕ) (out out' : Stream) : Type 0
  where
    pub program : Program
    pub is : IsProgramOf text program
    pub took : texts.TookFront Memory out.bytes (text_of options program) out'.bytes
    pub faultless : Faultless out.faults out'.faults

-- the whole text of the meaning, with its end; the refusal of the text; or a part of the text,
-- where the sink had a fault or memory was wanting
abbrev pub IsMeaningAnswer : RunOptions → Judged
IsMeaningAnswer options text out out' (Ok (Meant ended)) =
    (p : Program) × IsProgramOf text p
    × (ended ≡ texts.ended_within options.turns (shown_of options p).end)
    × TookWhole (text_of options p) out out'
IsMeaningAnswer options text out out' (Err (refusals.Text e)) = TextIsRefused text e
    × Unwritten out out'
IsMeaningAnswer options text out out' (Err refusals.WriteFault) =
    (p : Program) × IsProgramOf text p × IsCutOff (text_of options p) out out'
IsMeaningAnswer options text out out' (Err refusals.NoMemory) = TookMeaningFront options text out
    out'
IsMeaningAnswer options text out out' answer = ⊥

-- want of memory comes before anything is written, or in the middle of the text
pub record TookOfInput (options : RunOptions) (source source' out out' : Stream) : Type 0 where
  pub bytes : List ℕ
  pub input : IsInput text_limit source source' bytes
  pub front : TookMeaningFront options bytes out out'

abbrev pub IsMeaningInputAnswer : RunOptions → Stream → Stream → Stream → Stream
    → Result CommandOutcome Refusal → Type 0
IsMeaningInputAnswer options source source' out out' (Err refusals.NoMemory) =
    IsInputAnswer text_limit (IsMeaningAnswer options) source source' out out'
    (Err refusals.NoMemory)
    ⊎ TookOfInput options source source' out out'
IsMeaningInputAnswer options source source' out out' answer =
    IsInputAnswer text_limit (IsMeaningAnswer options) source source' out out' answer
