-- One frame of a walk through modules.
use Rattle.std.proofs.Common.{◌≡◌, ℕ, zero, suc, ◌+◌, ◌-◌, ◌<◌, ◌≤◌, true, false, List, [], ◌∷◌, length, drop, get_or, Some, None, Ok, Err, refl, sym, ap, subst, ◌∙◌, inl, inr, arith, set}
use Rattle.std.proofs.lemmas.List.{drop_all}
use Rattle.seh_views.specs.declared.c_types.SehContext.{SehContext}
use Rattle.seh_views.specs.declared.c_types.SehFrame.{SehFrame}
use Rattle.seh_views.specs.declared.c_types.SehRange.{SehRange}
use Rattle.seh_views.specs.declared.c_types.SehStatus.{SehStatus}
use Rattle.seh_views.specs.declared.c_types.SehView.{SehView}
use Rattle.seh_views.specs.declared.refusal.Refusal.{Refusal}
use Rattle.seh_views.specs.declared.refusal.Refusal.TheVariants as refusals
use Rattle.seh_views.specs.declared.step.Step.{Step}
use Rattle.seh_views.specs.declared.walking.Walk.{Walk}
use Rattle.seh_views.specs.Modules.{AreViews, has_code, first_has, first_from, index_or, module_of, module_step, first_step, outside, end_in, with_step, by_module, modules_from, walk_modules, ModulesWalked}
use Rattle.seh_views.specs.Openings.{Answer, Gives}
use Rattle.seh_views.specs.Shapes.{c_frame}
use Rattle.seh_views.specs.Statuses.{refusal_status}
use Rattle.seh_views.specs.Views.{IsViewOf}
use Rattle.seh_views.specs.Walks.{Walked, walked_of, ended}

-- ---- the view of an index

has_at : (rip m : ℕ) (vs : List SehView) (d : SehView) → m < length vs
    → first_has rip (drop m vs) ≡ has_code rip (get_or vs m d)
has_at rip m [] d lt = absurd (omega arith)
has_at rip zero (v ∷ vs) d lt = refl
has_at rip (suc m) (v ∷ vs) d lt = has_at rip m vs d (omega arith)

step_at : (ranges : List SehRange) (c : SehContext) (m : ℕ) (vs : List SehView) (d : SehView)
    → m < length vs → first_step ranges c (drop m vs) ≡ module_step ranges c (get_or vs m d)
step_at ranges c m [] d lt = absurd (omega arith)
step_at ranges c zero (v ∷ vs) d lt = refl
step_at ranges c (suc m) (v ∷ vs) d lt = step_at ranges c m vs d (omega arith)

pub step_gives : (ranges : List SehRange) (c : SehContext) (m : ℕ) (vs : List SehView) (d : SehView)
    (r : Answer Step) → m < length vs → AreViews vs
    → (IsViewOf (get_or vs m d) → Gives r (module_step ranges c (get_or vs m d)))
    → Gives r (first_step ranges c (drop m vs))
step_gives ranges c m vs d r lt are gives =
    subst (Gives r) (sym (step_at ranges c m vs d lt)) (gives (are m d lt))

module _ (vs : List SehView) (last rip : ℕ) where
  pub no_last : length vs ≤ last → first_from 0 rip vs ≡ module_of vs last rip
  no_last le = sym (ap (λ (xs : List SehView). index_or (first_from 0 rip vs) last
      (first_has rip xs)) (drop_all last vs le))

  module _ (d : SehView) (lt : last < length vs) where
    pub last_has : has_code rip (get_or vs last d) ≡ true → Some last ≡ module_of vs last rip
    last_has h = sym (ap (index_or (first_from 0 rip vs) last) (has_at rip last vs d lt ∙ h))

    pub last_has_not : has_code rip (get_or vs last d) ≡ false
        → first_from 0 rip vs ≡ module_of vs last rip
    last_has_not h = sym (ap (index_or (first_from 0 rip vs) last) (has_at rip last vs d lt ∙ h))

-- ---- the frames

module _ (vs : List SehView) (ranges : List SehRange) (k last : ℕ) (c : SehContext)
    (fs : List SehFrame) where
  abbrev from : ℕ → Walked
  from n = modules_from vs ranges n k last c fs

  abbrev frame_in : ℕ → ℕ → Walked
  frame_in j m = with_step (modules_from vs ranges j (k + 1) m) fs k m
      (first_step ranges c (drop m vs))

  abbrev frame_by : ℕ → ℕ → Answer Step → Walked
  frame_by j m a = with_step (modules_from vs ranges j (k + 1) m) fs k m a

  pub none_more : (n j : ℕ) → n ≡ suc j → None ≡ module_of vs last c.rip
      → ended fs k (outside c.rip) ≡ from n
  unfolding modules_from
  none_more n j e none = ap (by_module (frame_in j) fs k c.rip) none ∙ sym (ap from e)

  pub over : (n : ℕ) → n ≡ 0 → ended fs k (end_in c.rip (module_of vs last c.rip)) ≡ from n
  unfolding modules_from
  over n e = sym (ap from e)

  module _ (n j m : ℕ) (e : n ≡ suc j) (some : Some m ≡ module_of vs last c.rip) where
    one : (a : Answer Step) → first_step ranges c (drop m vs) ≡ a → from n ≡ frame_by j m a
    unfolding modules_from
    one a is = ap from e ∙ sym (ap (by_module (frame_in j) fs k c.rip) some)
        ∙ ap (frame_by j m) is

    pub frame_more : (s : Step) → first_step ranges c (drop m vs) ≡ Ok s
        → modules_from vs ranges j (k + 1) m s.caller (set fs k (c_frame m s)) ≡ from n
    frame_more s is = sym (one (Ok s) is)

    refused_more : (x : Refusal) → first_step ranges c (drop m vs) ≡ Err x
        → ended fs k (refusal_status x) ≡ from n
    refused_more x is = sym (one (Err x) is)

    by_status : (x : Refusal) (c0 : SehContext) (old : List SehFrame) (w : Walk)
        → first_step ranges c (drop m vs) ≡ Err x → w.count ≡ k → w.status ≡ refusal_status x
        → from n ≡ walk_modules vs ranges c0 old
        → walked_of fs w ≡ walk_modules vs ranges c0 old
    by_status x c0 old w is count status whole =
        ap (λ i. ended fs i w.status) count ∙ ap (λ (s : SehStatus). ended fs k s) status
        ∙ refused_more x is ∙ whole

    -- a frame that is refused, or for which memory is wanting
    pub ends : (x : Refusal) (c0 : SehContext) (old : List SehFrame) (w : Walk)
        → Gives (Err x) (first_step ranges c (drop m vs)) → w.count ≡ k
        → w.status ≡ refusal_status x → n ≡ length old - k
        → from n ≡ walk_modules vs ranges c0 old → ModulesWalked vs ranges c0 old fs w
    ends refusals.NoMemory c0 old w g count status left whole = inr (record {
      last = last;
      here = c;
      status = status;
      goes_on = ap (λ i. modules_from vs ranges (length old - i) i last c fs) count
          ∙ sym (ap from left) ∙ whole;
    })
    ends (refusals.Range x) c0 old w g count status left whole =
        inl (by_status (refusals.Range x) c0 old w g count status whole)
    ends (refusals.Image x) c0 old w g count status left whole =
        inl (by_status (refusals.Image x) c0 old w g count status whole)
    ends (refusals.Table x) c0 old w g count status left whole =
        inl (by_status (refusals.Table x) c0 old w g count status whole)
    ends (refusals.Unwinding x) c0 old w g count status left whole =
        inl (by_status (refusals.Unwinding x) c0 old w g count status whole)
