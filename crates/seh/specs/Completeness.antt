-- An accepted text isn't refused, and neither is the image that it is compiled to.
use Rattle.std.specs.Prelude.{◌≡◌, List, ℕ, Result, Ok, Err}
use Rattle.c_syntax.specs.Program.{ExternalDeclaration}
use Rattle.c_text.specs.declared.accepting.TextErr.TheVariants as texts
use Rattle.c_text.specs.Texts.{IsAccepted}
use Rattle.pe_image.specs.declared.refusal.ImageErr.TheVariants as images
use Rattle.host_model.specs.declared.refusal.LoadErr.TheVariants as loads
use Rattle.command_line.specs.declared.command.RunOptions.{RunOptions}
use Rattle.seh.specs.declared.outcome.CommandOutcome.{CommandOutcome}
use Rattle.seh.specs.declared.outcome.CommandOutcome.TheVariants.{Compiled, Ran}
use Rattle.seh.specs.declared.refusal.Refusal.{Refusal}
use Rattle.seh.specs.declared.refusal.Refusal.TheVariants as refusals
use Rattle.seh.specs.Images.{IsCompiled}
use Rattle.seh.specs.Streams.{Stream}
use Rattle.seh.specs.Answers.{end_by, IsCompileAnswer, IsRunAnswer}

-- want of memory, in whatever part
abbrev pub IsWantOfMemory : Refusal → Type 0
IsWantOfMemory refusals.NoMemory = Unit {0}
IsWantOfMemory (refusals.Text texts.Memory) = Unit {0}
IsWantOfMemory (refusals.Image images.Memory) = Unit {0}
IsWantOfMemory (refusals.Load loads.Memory) = Unit {0}
IsWantOfMemory r = ⊥

-- an answer is this outcome, unless the sink has a fault or memory is wanting
abbrev pub AnswersWith : CommandOutcome → Result CommandOutcome Refusal → Type 0
AnswersWith done (Ok outcome) = outcome ≡ done
AnswersWith done (Err refusals.WriteFault) = Unit {0}
AnswersWith done (Err r) = IsWantOfMemory r

-- what `compile` answers to an accepted text: that its image was written
abbrev pub AcceptedTextsCompile : Type 0
AcceptedTextsCompile =
    (source : List ℕ) (xs : List ExternalDeclaration) → IsAccepted source xs
    → (out out' : Stream) (answer : Result CommandOutcome Refusal)
    → IsCompileAnswer source out out' answer → AnswersWith Compiled answer

-- what `exec` answers to the image that a text was compiled to: the end of its run
abbrev pub CompiledImagesRun : Type 0
CompiledImagesRun =
    (source image : List ℕ) → IsCompiled source image
    → (options : RunOptions) (out out' : Stream) (answer : Result CommandOutcome Refusal)
    → IsRunAnswer options image out out' answer → AnswersWith (Ran (end_by options image)) answer
