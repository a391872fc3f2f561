-- What the activations represent.
use Rattle.std.specs.Prelude.{ℕ, List, map}
use Rattle.source_steps.specs.declared.activations.Activations.{Activations}

abbrev pub frames_of : Activations → List (List ℕ)
frames_of a = map (λ locals. locals.items) a.frames.items
