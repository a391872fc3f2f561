-- A walk through the frames whose code lies in one image.
--
-- The main definition: `walk`.
use Rattle.std.specs.Prelude.{◌≡◌, ℕ, zero, suc, ◌+◌, Bool, true, false, nat_lt, List, length, Ok, Err, slice_set}
use Rattle.seh_num.specs.Answers.{◌>>=◌}
use Rattle.flat_memory.specs.Memory.{Memory}
use Rattle.seh_views.specs.declared.c_types.SehContext.{SehContext}
use Rattle.virtual_unwind.specs.CallerOf.{distance}
use Rattle.pe_image.specs.declared.image_layout.ImageLayout.{ImageLayout}
use Rattle.pe_image.specs.Image.{Image}
use Rattle.eh_tables.specs.Tables.{Tables}
use Rattle.seh_views.specs.declared.c_types.SehFrame.{SehFrame}
use Rattle.seh_views.specs.declared.c_types.SehStatus.{SehStatus}
use Rattle.seh_views.specs.declared.refusal.Refusal.TheVariants as refusals
use Rattle.seh_views.specs.declared.walking.Walk.{Walk}
use Rattle.seh_views.specs.Shapes.{c_frame}
use Rattle.seh_views.specs.declared.c_types.SehRange.{SehRange}
use Rattle.seh_views.specs.declared.step.Step.{Step}
use Rattle.seh_views.specs.Callers.{risen, step_in}
use Rattle.seh_views.specs.Openings.{Answer, opened, table_of}
use Rattle.seh_views.specs.Ranges.{ranges_checked}
use Rattle.seh_views.specs.Snapshot.{snapshot}
use Rattle.seh_views.specs.Statuses.{ok, more, refusal_status}

-- RIP lies in an image of that size
abbrev pub is_inside : ℕ → ℕ → SehContext → Bool
is_inside base size c = nat_lt (distance base c.rip) size

-- an array of frames, how many of them were written, and why no more
pub record Walked : Type 0 where
  pub frames : List SehFrame
  pub count : ℕ
  pub status : SehStatus

abbrev pub walked_of : List SehFrame → Walk → Walked
walked_of fs w = record { frames = fs; count = w.count; status = w.status }

abbrev pub end : Bool → SehStatus
end true = more
end false = ok

abbrev pub ended : List SehFrame → ℕ → SehStatus → Walked
ended fs k s = record { frames = fs; count = k; status = s }

-- the k-th frame, and the others
abbrev pub with_frame : (SehContext → List SehFrame → Walked) → List SehFrame → ℕ
    → Answer Step → Walked
with_frame others fs k (Ok f) = others f.caller (slice_set fs k (c_frame 0 f))
with_frame others fs k (Err e) = ended fs k (refusal_status e)

abbrev pub if_inside : Walked → List SehFrame → ℕ → Bool → Walked
if_inside others fs k true = others
if_inside others fs k false = ended fs k ok

-- from the k-th frame on, at most n, in an image of that size at a base
unfoldable pub walk_from : Bool → Tables → ℕ → Memory → ℕ → ℕ → ℕ → SehContext → List SehFrame
    → Walked
walk_from own t base m size zero k c fs = ended fs k (end (is_inside base size c))
walk_from own t base m size (suc n) k c fs =
    if_inside (with_frame (walk_from own t base m size n (k + 1)) fs k
    (step_in own t base m c >>= risen c)) fs k (is_inside base size c)

-- frames one after another, while RIP lies in the image and the array has room
abbrev pub walk : Bool → Tables → ℕ → Memory → ℕ → SehContext → List SehFrame → Walked
walk own t base m size c fs = walk_from own t base m size (length fs) 0 c fs

-- ---- from the bytes of an image

abbrev pub walk_within : Bool → Image → ℕ → List SehRange → SehContext → List SehFrame
    → Answer Walked
walk_within own image base ranges c fs = do
  t ← table_of image
  Ok (walk own t base (snapshot image base ranges) image.size c fs)

abbrev pub walk_opened : Bool → ImageLayout → List ℕ → ℕ → List SehRange → SehContext
    → List SehFrame → Answer Walked
walk_opened own layout bytes base ranges c fs = do
  image ← opened layout bytes
  walk_within own image base ranges c fs

abbrev pub walked_in : Bool → ImageLayout → List ℕ → ℕ → List SehRange → SehContext
    → List SehFrame → Answer Walked
walked_in own layout bytes base ranges c fs = do
  _ ← ranges_checked 0 0 ranges
  walk_opened own layout bytes base ranges c fs

-- a call gives this walk, with the array before and after; or memory is wanting
abbrev pub GivesWalk : List SehFrame → List SehFrame → Answer Walk → Answer Walked → Type 0
GivesWalk old new (Ok w) given = given ≡ Ok (walked_of new w)
GivesWalk old new (Err refusals.NoMemory) given = new ≡ old
GivesWalk old new (Err e) given = (given ≡ Err e) × (new ≡ old)
