-- The code's handlers, by their numbers.
use Rattle.std.proofs.Common.{◌≡◌, ℕ, ◌<◌, ◌≤◌, List, length, map, refl, ap, ◌∙◌, Some, None}
use Rattle.std.specs.Prelude.{slice_get, get_or, option_map}
use Rattle.std.proofs.lemmas.Option.{slice_get_read, slice_get_past, slice_get-map}
use Rattle.source_plans.specs.declared.place.Handler.{Handler}
use Rattle.source_plans.specs.Views.{handler_of}

pub handler_there : (hs : List Handler) (k : ℕ) (h : Handler) → k < length hs → h ≡ get_or hs k h
    → slice_get (map handler_of hs) k ≡ Some (handler_of h)
handler_there hs k h lt e =
    slice_get-map handler_of hs k ∙ ap (option_map handler_of)
    (slice_get_read hs (length hs) k h refl lt e)

pub handler_past : (hs : List Handler) (k : ℕ) → length hs ≤ k
    → slice_get (map handler_of hs) k ≡ None
handler_past hs k le =
    slice_get-map handler_of hs k ∙ ap (option_map handler_of) (slice_get_past hs k le)
