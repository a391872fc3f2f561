-- Every accepted text within the limit has an image.
use Rattle.std.specs.Prelude.{ℕ, ◌≤◌, List, length}
use Rattle.c_syntax.specs.Program.{ExternalDeclaration}
use Rattle.c_text.specs.Texts.{IsAccepted}
use Rattle.seh.specs.Answers.{text_limit}
use Rattle.seh.specs.Images.{IsCompiled}

-- an accepted text of at most so many bytes has an image
abbrev pub ImagesExist : Type 0
ImagesExist =
    (source : List ℕ) (whole : List ExternalDeclaration)
    → length source ≤ text_limit → IsAccepted source whole
    → (image : List ℕ) × IsCompiled source image
