-- A walk through frames whose code lies in several images.
--
-- The main definitions: `module_of`, `walk_modules`, `StackWalked`.
use Rattle.std.specs.Prelude.{◌≡◌, ◌⊎◌, ◌<◌, ℕ, zero, suc, ◌+◌, ◌-◌, Bool, true, false, nat_lt, List, [], ◌∷◌, length, drop, slice_index_or, Option, Some, None, Ok, Err, slice_set}
use Rattle.seh_num.specs.Answers.{◌>>=◌}
use Rattle.seh_views.specs.declared.c_types.SehContext.{SehContext}
use Rattle.virtual_unwind.specs.CallerOf.{distance}
use Rattle.seh_views.specs.declared.c_types.SehFrame.{SehFrame}
use Rattle.seh_views.specs.declared.c_types.SehRange.{SehRange}
use Rattle.seh_views.specs.declared.c_types.SehStatus.{SehStatus}
use Rattle.seh_views.specs.declared.c_types.SehView.{SehView}
use Rattle.seh_views.specs.declared.refusal.Refusal.TheVariants as refusals
use Rattle.seh_views.specs.declared.step.Step.{Step}
use Rattle.seh_views.specs.declared.walking.Walk.{Walk}
use Rattle.seh_views.specs.Callers.{risen, step_from}
use Rattle.seh_views.specs.Openings.{Answer}
use Rattle.seh_views.specs.Ranges.{ranges_checked}
use Rattle.seh_views.specs.Shapes.{c_frame, is_own, layout}
use Rattle.seh_views.specs.Statuses.{more, end_of_stack, unknown_code, no_memory, refusal_status}
use Rattle.seh_views.specs.Views.{IsViewOf}
use Rattle.seh_views.specs.Walks.{Walked, walked_of, ended}

abbrev pub AreViews : List SehView → Type 0
AreViews vs = (k : ℕ) (d : SehView) → k < length vs → IsViewOf (slice_index_or vs k d)

-- ---- the module of an address

abbrev pub has_code : ℕ → SehView → Bool
has_code rip v = nat_lt (distance v.base rip) v.size

-- whether the first view has it
abbrev pub first_has : ℕ → List SehView → Bool
first_has rip [] = false
first_has rip (v ∷ vs) = has_code rip v

-- the index of the first that has it, from an index on
abbrev pub index_or : Option ℕ → ℕ → Bool → Option ℕ
index_or others index true = Some index
index_or others index false = others

abbrev pub first_from : ℕ → ℕ → List SehView → Option ℕ
first_from index rip [] = None
first_from index rip (v ∷ vs) = index_or (first_from (index + 1) rip vs) index (has_code rip v)

-- the module of an address: that of the frame before, where it has this address too, else the first
-- that has it
abbrev pub module_of : List SehView → ℕ → ℕ → Option ℕ
module_of vs last rip = index_or (first_from 0 rip vs) last (first_has rip (drop last vs))

-- ---- the frames

-- a frame whose code lies in a view, which is opened anew
abbrev pub module_step : List SehRange → SehContext → SehView → Answer Step
module_step ranges c v =
    step_from (is_own v) (layout v) v.bytes.now v.base ranges c >>= risen c

abbrev pub first_step : List SehRange → SehContext → List SehView → Answer Step
first_step ranges c [] = Err refusals.NoMemory
first_step ranges c (v ∷ vs) = module_step ranges c v

-- RIP lies in no module: 0 ends a stack
abbrev pub outside : ℕ → SehStatus
outside zero = end_of_stack
outside (suc a) = unknown_code (suc a)

abbrev pub end_in : ℕ → Option ℕ → SehStatus
end_in rip (Some k) = more
end_in rip None = outside rip

abbrev pub with_step : (SehContext → List SehFrame → Walked) → List SehFrame → ℕ → ℕ → Answer Step
    → Walked
with_step others fs k m (Ok s) = others s.caller (slice_set fs k (c_frame m s))
with_step others fs k m (Err e) = ended fs k (refusal_status e)

abbrev pub by_module : (ℕ → Walked) → List SehFrame → ℕ → ℕ → Option ℕ → Walked
by_module frame fs k rip (Some m) = frame m
by_module frame fs k rip None = ended fs k (outside rip)

-- from the k-th frame on, at most n, after one of a module
unfoldable pub modules_from : List SehView → List SehRange → ℕ → ℕ → ℕ → SehContext → List SehFrame
    → Walked
modules_from vs ranges zero k last c fs = ended fs k (end_in c.rip (module_of vs last c.rip))
modules_from vs ranges (suc n) k last c fs =
    by_module (λ m. with_step (modules_from vs ranges n (k + 1) m) fs k m
    (first_step ranges c (drop m vs))) fs k c.rip (module_of vs last c.rip)

-- frames one after another, while RIP lies in a module and the array has room
abbrev pub walk_modules : List SehView → List SehRange → SehContext → List SehFrame → Walked
walk_modules vs ranges c fs = modules_from vs ranges (length fs) 0 0 c fs

-- memory was wanting at a frame: from there on the walk goes on
pub record Unfinished (vs : List SehView) (ranges : List SehRange) (c : SehContext)
    (old new : List SehFrame) (w : Walk) : Type 0 where
  pub last : ℕ
  pub here : SehContext
  pub status : w.status ≡ no_memory
  pub goes_on : modules_from vs ranges (length old - w.count) w.count last here new
      ≡ walk_modules vs ranges c old

abbrev pub ModulesWalked : List SehView → List SehRange → SehContext → List SehFrame → List SehFrame
    → Walk → Type 0
ModulesWalked vs ranges c old new w =
    (walked_of new w ≡ walk_modules vs ranges c old) ⊎ Unfinished vs ranges c old new w

-- ranges that aren't in order are refused before the first frame
abbrev pub WalkedOver : List SehView → List SehRange → SehContext → List SehFrame → List SehFrame
    → Walk → Answer Unit → Type 0
WalkedOver vs ranges c old new w (Ok u) = ModulesWalked vs ranges c old new w
WalkedOver vs ranges c old new w (Err e) = walked_of new w ≡ ended old 0 (refusal_status e)

-- what a walk through modules writes and returns
abbrev pub StackWalked : List SehView → List SehRange → SehContext → List SehFrame → List SehFrame
    → Walk → Type 0
StackWalked vs ranges c old new w = WalkedOver vs ranges c old new w (ranges_checked 0 0 ranges)
