-- What comes of a text or an image comes of the input that it was.
use Rattle.std.proofs.Common.{◌≡◌, ◌<◌, ℕ, min, List, [], length, append-nil, ◌∙◌, take, drop, Option, Result, Ok, Err, sym, ap, arith, refl, subst, inl, inr}
use Rattle.std.proofs.lemmas.List.{take-append-drop, length-take-le}
use Rattle.seh.specs.Words.{Grew, last_count, TookPart, CommandOutcome, Refusal, Stream, RunOptions, IsMeaningAnswer, IsMeaningInputAnswer, text_limit, image_limit, Judged, IsRunAnswer, IsShowAnswer, IsInput, LostFew, IsCompileAnswer, IsTextRunAnswer, IsInputRefusal, IsInputAnswer}
use Rattle.seh.specs.declared.refusal.Refusal.TheVariants as refusals
use Rattle.seh.specs.Checks.{IsCheckAnswer}
use Rattle.seh.specs.EntryChecks.{IsEntriesAnswer}

-- what was read whole was lost from the front
lost_all : (limit : ℕ) (source source' : Stream) (bytes : List ℕ)
    → IsInput limit source source' bytes → LostFew limit source source'
lost_all limit source source' bytes input = (
  bytes,
  (let w = input.within in omega arith),
  λ held known. ([], sym (input.all held known) ∙ sym (append-nil bytes), input.emptied held known),
)

-- the same bytes are the same input
pub same_input : (limit : ℕ) (source source' : Stream) (read bytes : List ℕ) → bytes ≡ read
    → IsInput limit source source' read → IsInput limit source source' bytes
same_input limit source source' read bytes same input = subst
    (λ (bs : List ℕ). IsInput limit source source' bs) (sym same) input

-- of a text that was compiled
pub from_text : (text : List ℕ) (source source' out out' : Stream)
    (answer : Result CommandOutcome Refusal) → IsInput text_limit source source' text
    → IsCompileAnswer text out out' answer → IsInputAnswer text_limit IsCompileAnswer source source'
    out out' answer
from_text text source source' out out' (Ok done) input
    h = record { bytes = text; input = input; comes = h }
from_text text source source' out out' (Err (refusals.Text e)) input h =
    record { bytes = text; input = input; comes = h }
from_text text source source' out out' (Err refusals.WriteFault) input h =
    record { bytes = text; input = input; comes = h }
from_text text source source' out out' (Err refusals.NoMemory) input h =
    ((lost_all text_limit source source' text input, input.faultless), h)
from_text text source source' out out' (Err r) input h = absurd h

-- of a text that was compiled and run
pub from_run : (options : RunOptions) (text : List ℕ) (source source' out out' : Stream)
    (answer : Result CommandOutcome Refusal) → IsInput text_limit source source' text
    → IsTextRunAnswer options text out out' answer
    → IsInputAnswer text_limit (IsTextRunAnswer options) source source' out out' answer
from_run options text source source' out out' (Ok done) input h =
    record { bytes = text; input = input; comes = h }
from_run options text source source' out out' (Err (refusals.Text e)) input h =
    record { bytes = text; input = input; comes = h }
from_run options text source source' out out' (Err (refusals.Image e)) input h =
    record { bytes = text; input = input; comes = h }
from_run options text source source' out out' (Err (refusals.Load e)) input h =
    record { bytes = text; input = input; comes = h }
from_run options text source source' out out' (Err refusals.WriteFault) input h =
    record { bytes = text; input = input; comes = h }
from_run options text source source' out out' (Err refusals.NoMemory) input h =
    ((lost_all text_limit source source' text input, input.faultless), h)
from_run options text source source' out out' (Err refusals.Usage) input h = absurd h.2
from_run options text source source' out out' (Err refusals.ReadFault) input h = absurd h.2
from_run options text source source' out out' (Err (refusals.TooLong most)) input h = absurd h.2

-- of a text that was run as its meaning says
pub from_meaning : (options : RunOptions) (text : List ℕ) (source source' out out' : Stream)
    (answer : Result CommandOutcome Refusal) → IsInput text_limit source source' text
    → IsMeaningAnswer options text out out' answer
    → IsMeaningInputAnswer options source source' out out' answer
from_meaning options text source source' out out' (Ok done) input h =
    record { bytes = text; input = input; comes = h }
from_meaning options text source source' out out' (Err (refusals.Text e)) input h =
    record { bytes = text; input = input; comes = h }
from_meaning options text source source' out out' (Err refusals.WriteFault) input h =
    record { bytes = text; input = input; comes = h }
from_meaning options text source source' out out' (Err refusals.NoMemory) input h = inr
    (record { bytes = text; input = input; front = h })
from_meaning options text source source' out out' (Err r) input h = absurd h

-- of an image that was run
pub from_image : (options : RunOptions) (bytes : List ℕ) (source source' out out' : Stream)
    (answer : Result CommandOutcome Refusal) → IsInput image_limit source source' bytes
    → IsRunAnswer options bytes out out' answer
    → IsInputAnswer image_limit (IsRunAnswer options) source source' out out' answer
from_image options bytes source source' out out' (Ok done) input h =
    record { bytes = bytes; input = input; comes = h }
from_image options bytes source source' out out' (Err (refusals.Image e)) input h =
    record { bytes = bytes; input = input; comes = h }
from_image options bytes source source' out out' (Err (refusals.Load e)) input h =
    record { bytes = bytes; input = input; comes = h }
from_image options bytes source source' out out' (Err refusals.WriteFault) input h =
    record { bytes = bytes; input = input; comes = h }
from_image options bytes source source' out out' (Err r) input h = absurd h

-- of an image whose function table was shown
pub from_shown : (bytes : List ℕ) (source source' out out' : Stream)
    (answer : Result CommandOutcome Refusal) → IsInput image_limit source source' bytes
    → IsShowAnswer bytes out out' answer → IsInputAnswer image_limit IsShowAnswer source source' out
    out' answer
from_shown bytes source source' out out' (Ok done) input
    h = record { bytes = bytes; input = input; comes = h }
from_shown bytes source source' out out' (Err (refusals.Image e)) input h =
    record { bytes = bytes; input = input; comes = h }
from_shown bytes source source' out out' (Err refusals.WriteFault) input h =
    record { bytes = bytes; input = input; comes = h }
from_shown bytes source source' out out' (Err r) input h = absurd h

-- of an image whose function table was checked
pub from_checked : (bytes : List ℕ) (source source' out out' : Stream)
    (answer : Result CommandOutcome Refusal) → IsInput image_limit source source' bytes
    → IsCheckAnswer bytes out out' answer
    → IsInputAnswer image_limit IsCheckAnswer source source' out out' answer
from_checked bytes source source' out out' (Ok done) input h =
    record { bytes = bytes; input = input; comes = h }
from_checked bytes source source' out out' (Err refusals.WriteFault) input h =
    record { bytes = bytes; input = input; comes = h }
from_checked bytes source source' out out' (Err (refusals.Image e)) input h =
    record { bytes = bytes; input = input; comes = h }
from_checked bytes source source' out out' (Err (refusals.Load e)) input h =
    record { bytes = bytes; input = input; comes = h }
from_checked bytes source source' out out' (Err refusals.NoMemory) input h =
    ((lost_all image_limit source source' bytes input, input.faultless), h.1)
from_checked bytes source source' out out' (Err r) input h = absurd h.0

-- of an image whose entries were checked
pub from_entries : (bytes : List ℕ) (source source' out out' : Stream)
    (answer : Result CommandOutcome Refusal) → IsInput image_limit source source' bytes
    → IsEntriesAnswer bytes out out' answer
    → IsInputAnswer image_limit IsEntriesAnswer source source' out out' answer
from_entries bytes source source' out out' (Ok done) input h =
    record { bytes = bytes; input = input; comes = h }
from_entries bytes source source' out out' (Err refusals.WriteFault) input h =
    record { bytes = bytes; input = input; comes = h }
from_entries bytes source source' out out' (Err (refusals.Image e)) input h =
    record { bytes = bytes; input = input; comes = h }
from_entries bytes source source' out out' (Err (refusals.Load e)) input h =
    record { bytes = bytes; input = input; comes = h }
from_entries bytes source source' out out' (Err refusals.NoMemory) input h =
    ((lost_all image_limit source source' bytes input, input.faultless), h.1)
from_entries bytes source source' out out' (Err r) input h = absurd h.0

-- what wasn't read is the answer
pub refused_input : (limit : ℕ) (judged : Judged) (source source' out : Stream) (e : Refusal)
    → IsInputRefusal limit source source' e → IsInputAnswer limit judged source source' out out
    (Err e)
refused_input limit judged source source' out refusals.ReadFault h = (h, refl)
refused_input limit judged source source' out (refusals.TooLong most) h = (h, refl)
refused_input limit judged source source' out refusals.NoMemory h = (h, refl)
refused_input limit judged source source' out e h = absurd h

pub refused_meaning : (options : RunOptions) (source source' out : Stream) (e : Refusal)
    → IsInputRefusal text_limit source source' e
    → IsMeaningInputAnswer options source source' out out (Err e)
refused_meaning options source source' out refusals.ReadFault h = (h, refl)
refused_meaning options source source' out (refusals.TooLong most) h = (h, refl)
refused_meaning options source source' out refusals.NoMemory h = inl (h, refl)
refused_meaning options source source' out e h = absurd h

-- a front of a text was taken
pub took_front : (taken : Option (List ℕ)) (text : List ℕ) (taken' : Option (List ℕ)) (count : ℕ)
    → count < length text → Grew taken (take count text) taken' → TookPart taken text taken' count
took_front taken text taken' count short grew = record {
  part = take count text;
  begins = (drop count text, sym (take-append-drop count text));
  grew = grew;
  counted = ap (λ n. min n last_count) (sym (length-take-le count text (omega arith)));
}
