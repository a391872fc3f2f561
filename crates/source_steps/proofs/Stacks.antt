-- The code's stack, whose last frame is the model's first.
use Rattle.std.proofs.Common.{◌≡◌, List, [], ◌∷◌, ◌++◌, ap, ◌∙◌, map}
use Rattle.std.specs.Prelude.{reverse}
use Rattle.std.proofs.lemmas.List.{map-append, reverse-append}
use Rattle.source_plans.specs.declared.frame.ContinuationFrame.{ContinuationFrame}
use Rattle.source_plans.specs.Views.{frame_of}

pub pushed : (fs : List ContinuationFrame) (f : ContinuationFrame)
    → reverse (map frame_of (fs ++ f ∷ [])) ≡ frame_of f
    ∷ reverse (map frame_of fs)
pushed fs f =
    ap reverse (map-append frame_of fs (f ∷ []))
    ∙ reverse-append (map frame_of fs) (frame_of f ∷ [])
