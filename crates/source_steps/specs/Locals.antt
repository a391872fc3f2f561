-- The locals of activations.
use Rattle.std.specs.Prelude.{ℕ, List, [], slice_get, slice_set, Some, None}

abbrev pub frame_in : List (List ℕ) → ℕ → List ℕ
frame_in frames k = elim (slice_get frames k) [ Some frame ↦ frame | None ↦ [] ]

abbrev pub with_local_in : List (List ℕ) → ℕ → ℕ → ℕ → List (List ℕ)
with_local_in frames k x v = slice_set frames k (slice_set (frame_in frames k) x v)
