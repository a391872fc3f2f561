-- What comes of a text comes of its image, or is its refusal.
use Rattle.std.proofs.Common.{ℕ, List, Result, Ok, Err, refl}
use Rattle.seh.specs.Words.{RunEnd, CommandOutcome, Refusal, IsCompiled, IsTextRefusal, Judged, Stream, IsWrittenRun, IsImageAnswer}
use Rattle.seh.specs.declared.refusal.Refusal.TheVariants as refusals

-- the run of an image that was compiled
pub of_image : (text_of : List ℕ → List ℕ) (end_of : List ℕ → RunEnd) (text image : List ℕ)
    (out out' : Stream) (answer : Result CommandOutcome Refusal) → IsCompiled text image
    → IsWrittenRun text_of end_of image out out' answer
    → IsImageAnswer (IsWrittenRun text_of end_of) text out out' answer
of_image text_of end_of text image out out' (Ok done) compiled h = (image, compiled, h)
of_image text_of end_of text image out out' (Err (refusals.Image e)) compiled h =
    (image, compiled, h)
of_image text_of end_of text image out out' (Err (refusals.Load e)) compiled h =
    (image, compiled, h)
of_image text_of end_of text image out out' (Err refusals.WriteFault) compiled h =
    (image, compiled, h)
of_image text_of end_of text image out out' (Err r) compiled h = absurd h

-- a text that wasn't compiled
pub of_refusal : (judged : Judged) (text : List ℕ) (out : Stream) (e : Refusal)
    → IsTextRefusal text e → IsImageAnswer judged text out out (Err e)
of_refusal judged text out (refusals.Text e) h = (h, refl)
of_refusal judged text out refusals.NoMemory h = refl
of_refusal judged text out e h = absurd h
