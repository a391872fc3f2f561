-- What comes of the input of a command, and by what cause.
use Rattle.std.specs.Prelude.{◌≡◌, ℕ, ◌+◌, ◌<◌, ◌≤◌, List, [], length, Option, Some, None, Result, Ok, Err}
use Rattle.std.specs.Option.{ForSome}
use Rattle.seh_num.specs.declared.end.RunEnd.{RunEnd}
use Rattle.seh_num.specs.Shown.{Shown}
use Rattle.host_layout.specs.declared.limit.TheConstants.{MOST_TEXT, MOST_IMAGE}
use Rattle.seh_io.specs.Streams.{Faultless, Faulted}
use Rattle.seh_io.specs.Reading.{LostAtMost}
use Rattle.seh_io.specs.Names.{no_names}
use Rattle.seh_io.specs.Text.{text}
use Rattle.seh_io.specs.Writer.{TookPart}
use Rattle.pe_image.specs.Image.{Image}
use Rattle.pe_image.specs.NameRows.{function_name}
use Rattle.pe_image.specs.Reading.{reading, IsImage, ImageIsRefused}
use Rattle.pe_image.specs.declared.refusal.ImageErr.{ImageErr}
use Rattle.table_view.specs.View.{view}
use Rattle.host_model.specs.declared.refusal.LoadErr.{LoadErr}
use Rattle.host_model.specs.Loading.{load_refusal}
use Rattle.host_model.specs.Machine.{machine}
use Rattle.seh_host.specs.Turns.{end_within}
use Rattle.seh_host.specs.Hosts.{IsLoadRefusal}
use Rattle.c_text.specs.Texts.{TextIsRefused as IsRefusedText}
use Rattle.command_line.specs.declared.command.RunOptions.{RunOptions}
use Rattle.seh.specs.declared.outcome.CommandOutcome.{CommandOutcome}
use Rattle.seh.specs.declared.outcome.CommandOutcome.TheVariants.{Compiled, Ran, Viewed}
use Rattle.seh.specs.declared.refusal.Refusal.{Refusal}
use Rattle.seh.specs.declared.refusal.Refusal.TheVariants as refusals
use Rattle.seh.specs.Images.{IsCompiled}
use Rattle.seh.specs.Streams.{Stream, TookWhole}

-- a text has at most so many bytes
abbrev pub text_limit : ℕ
text_limit = MOST_TEXT

-- an image has at most so many bytes
abbrev pub image_limit : ℕ
image_limit = MOST_IMAGE

-- these are the bytes that the source held, at most so many; where it is known what it held, they
-- are that, and nothing is left; no read was a fault
pub record IsInput (limit : ℕ) (source source' : Stream) (bytes : List ℕ) : Type 0 where
  pub within : length bytes ≤ limit
  pub all : ForSome source.bytes (λ held. bytes ≡ held)
  pub emptied : ForSome source.bytes (λ _. source'.bytes ≡ Some [])
  pub faultless : Faultless source.faults source'.faults

-- an image that is run with these options: what is shown of it, and how it ends
abbrev pub shown_by : RunOptions → List ℕ → Shown RunEnd
shown_by options bytes = machine bytes options.argument options.turns

abbrev pub end_by : RunOptions → List ℕ → RunEnd
end_by options bytes = end_within options.turns (shown_by options bytes).end

-- the names of an image's functions; bytes that are no image have none
abbrev pub names_read : Result Image ImageErr → ℕ → Option (List ℕ)
names_read (Ok image) = function_name image
names_read (Err e) = no_names

abbrev pub names_by : List ℕ → ℕ → Option (List ℕ)
names_by bytes = names_read (reading bytes)

abbrev pub text_by : RunOptions → List ℕ → List ℕ
text_by options bytes =
    text (shown_by options bytes).events (end_by options bytes) options.trace (names_by bytes)

-- the bytes are an image that loads
pub record Loads (bytes : List ℕ) : Type 0 where
  pub image : Image
  pub is : IsImage bytes image
  pub loads : load_refusal image ≡ None

-- the bytes are an image whose load is refused
pub record IsRefusedLoad (bytes : List ℕ) (e : LoadErr) : Type 0 where
  pub image : Image
  pub is : IsImage bytes image
  pub refused : IsLoadRefusal image e

-- nothing was written
abbrev pub Unwritten : Stream → Stream → Type 0
Unwritten out out' = out' ≡ out

-- the last write was a fault, and the one; the sink has taken a part of a text from the front
abbrev pub IsCutOff : List ℕ → Stream → Stream → Type 0
IsCutOff text out out' =
    Faulted out.faults out'.faults × ((count : ℕ) × TookPart out.bytes text out'.bytes count)

-- what comes of bytes that were read, from the sink before and after
abbrev pub Judged : Type 1
Judged = List ℕ → Stream → Stream → Result CommandOutcome Refusal → Type 0

-- what comes of an image's bytes, of whose run this text is to be written, with this end: the
-- whole text, where the image loads; the first check that fails, or the load's; or a part of the
-- text, where the sink had a fault
abbrev pub IsWrittenRun : (List ℕ → List ℕ) → (List ℕ → RunEnd) → Judged
IsWrittenRun text_of end_of bytes out out' (Ok (Ran end)) =
    Loads bytes × (end ≡ end_of bytes) × TookWhole (text_of bytes) out out'
IsWrittenRun text_of end_of bytes out out' (Err (refusals.Image e)) = ImageIsRefused bytes e
    × Unwritten out out'
IsWrittenRun text_of end_of bytes out out' (Err (refusals.Load e)) =
    IsRefusedLoad bytes e × Unwritten out out'
IsWrittenRun text_of end_of bytes out out' (Err refusals.WriteFault) =
    Loads bytes × IsCutOff (text_of bytes) out out'
IsWrittenRun text_of end_of bytes out out' answer = ⊥

-- what comes of an image's bytes that are run
abbrev pub IsRunAnswer : RunOptions → Judged
IsRunAnswer options = IsWrittenRun (text_by options) (end_by options)

-- ---- showing

-- what comes of an image's bytes: the whole view of its function table; the first check that fails;
-- or a part of the view, where the sink had a fault
abbrev pub IsShowAnswer : Judged
IsShowAnswer bytes out out' (Ok Viewed) =
    (image : Image) × IsImage bytes image × TookWhole (view image) out out'
IsShowAnswer bytes out out' (Err (refusals.Image e)) = ImageIsRefused bytes e × Unwritten out out'
IsShowAnswer bytes out out' (Err refusals.WriteFault) =
    (image : Image) × IsImage bytes image × IsCutOff (view image) out out'
IsShowAnswer bytes out out' answer = ⊥

-- ---- compiling

-- what comes of a text: the whole image; the refusal of the text; or a part of the image, where the
-- sink had a fault
abbrev pub IsCompileAnswer : Judged
IsCompileAnswer text out out' (Ok Compiled) =
    (image : List ℕ) × IsCompiled text image × TookWhole image out out'
IsCompileAnswer text out out' (Err (refusals.Text e)) = IsRefusedText text e × Unwritten out out'
IsCompileAnswer text out out' (Err refusals.WriteFault) =
    (image : List ℕ) × IsCompiled text image × IsCutOff image out out'
IsCompileAnswer text out out' (Err refusals.NoMemory) = Unwritten out out'
IsCompileAnswer text out out' answer = ⊥

-- ---- compiling and running at once

-- what comes of a text that is compiled in memory: what comes of its image, or the refusal of the
-- text
abbrev pub IsImageAnswer : Judged → Judged
IsImageAnswer judged text out out' (Err (refusals.Text e)) =
    IsRefusedText text e × Unwritten out out'
IsImageAnswer judged text out out' (Err refusals.NoMemory) = Unwritten out out'
IsImageAnswer judged text out out' answer =
    (image : List ℕ) × IsCompiled text image × judged image out out' answer

-- what comes of a text that is compiled in memory and run
abbrev pub IsTextRunAnswer : RunOptions → Judged
IsTextRunAnswer options = IsImageAnswer (IsRunAnswer options)

-- ---- the input

-- the source was read to its end, and this comes of what it held
pub record FromInput (limit : ℕ) (judged : Judged) (source source' out out' : Stream)
    (answer : Result CommandOutcome Refusal) : Type 0 where
  pub bytes : List ℕ
  pub input : IsInput limit source source' bytes
  pub comes : judged bytes out out' answer

-- the source holds more than the limit
abbrev pub IsTooLong : ℕ → Stream → Type 0
IsTooLong limit source = ForSome source.bytes (λ held. limit < length held)

-- the source has lost at most the limit and one byte, from the front
abbrev pub LostFew : ℕ → Stream → Stream → Type 0
LostFew limit source source' = LostAtMost (limit + 1) source.bytes source'.bytes

-- why a source's bytes weren't read: a fault of the source, which was its last read; or, without
-- one, more bytes than the limit or want of memory
abbrev pub IsInputRefusal : ℕ → Stream → Stream → Refusal → Type 0
IsInputRefusal limit source source' refusals.ReadFault =
    Faulted source.faults source'.faults × LostFew limit source source'
IsInputRefusal limit source source' (refusals.TooLong most) =
    (most ≡ limit) × IsTooLong limit source × LostFew limit source source'
    × Faultless source.faults source'.faults
IsInputRefusal limit source source' refusals.NoMemory =
    LostFew limit source source' × Faultless source.faults source'.faults
IsInputRefusal limit source source' e = ⊥

-- a command that reads its input has this answer by its cause, from the source and the sink before
-- and after
abbrev pub IsInputAnswer : ℕ → Judged → Stream → Stream → Stream → Stream
    → Result CommandOutcome Refusal
    → Type 0
IsInputAnswer limit judged source source' out out' (Err refusals.Usage) = ⊥
IsInputAnswer limit judged source source' out out' (Err refusals.ReadFault) =
    IsInputRefusal limit source source' refusals.ReadFault × Unwritten out out'
IsInputAnswer limit judged source source' out out' (Err (refusals.TooLong most)) =
    IsInputRefusal limit source source' (refusals.TooLong most) × Unwritten out out'
IsInputAnswer limit judged source source' out out' (Err refusals.NoMemory) =
    IsInputRefusal limit source source' refusals.NoMemory × Unwritten out out'
IsInputAnswer limit judged source source' out out' answer =
    FromInput limit judged source source' out out' answer
