-- One frame of a walk.
use Rattle.std.proofs.Common.{◌≡◌, ℕ, suc, ◌+◌, Bool, true, false, List, Ok, Err, ap, ◌∙◌, set}
use Rattle.seh_num.specs.Answers.{◌>>=◌}
use Rattle.flat_memory.specs.Memory.{Memory}
use Rattle.seh_views.specs.declared.c_types.SehContext.{SehContext}
use Rattle.eh_tables.specs.Tables.{Tables}
use Rattle.seh_views.specs.declared.c_types.SehFrame.{SehFrame}
use Rattle.seh_views.specs.declared.refusal.Refusal.{Refusal}
use Rattle.seh_views.specs.declared.step.Step.{Step}
use Rattle.seh_views.specs.Callers.{risen, step_in}
use Rattle.seh_views.specs.Shapes.{c_frame}
use Rattle.seh_views.specs.Statuses.{ok, refusal_status}
use Rattle.seh_views.specs.Walks.{is_inside, end, ended, with_frame, if_inside, walk_from}

module _ (own : Bool) (t : Tables) (base : ℕ) (m : Memory) (size : ℕ) where
  pub frame_more : (n j k : ℕ) (c : SehContext) (fs : List SehFrame) (f : Step) → n ≡ suc j
      → is_inside base size c ≡ true → (step_in own t base m c >>= risen c) ≡ Ok f
      → walk_from own t base m size n k c fs
      ≡ walk_from own t base m size j (k + 1) f.caller (set fs k (c_frame 0 f))
  unfolding walk_from
  frame_more n j k c fs f e i r = ap (λ x. walk_from own t base m size x k c fs) e
      ∙ ap (if_inside (with_frame (walk_from own t base m size j (k + 1)) fs k
      (step_in own t base m c >>= risen c)) fs k) i
      ∙ ap (with_frame (walk_from own t base m size j (k + 1)) fs k) r

  pub frame_refused : (n j k : ℕ) (c : SehContext) (fs : List SehFrame) (x : Refusal) → n ≡ suc j
      → is_inside base size c ≡ true → (step_in own t base m c >>= risen c) ≡ Err x
      → walk_from own t base m size n k c fs ≡ ended fs k (refusal_status x)
  unfolding walk_from
  frame_refused n j k c fs x e i r = ap (λ y. walk_from own t base m size y k c fs) e
      ∙ ap (if_inside (with_frame (walk_from own t base m size j (k + 1)) fs k
      (step_in own t base m c >>= risen c)) fs k) i
      ∙ ap (with_frame (walk_from own t base m size j (k + 1)) fs k) r

  pub frame_none : (n j k : ℕ) (c : SehContext) (fs : List SehFrame) → n ≡ suc j
      → is_inside base size c ≡ false → walk_from own t base m size n k c fs ≡ ended fs k ok
  unfolding walk_from
  frame_none n j k c fs e i = ap (λ y. walk_from own t base m size y k c fs) e
      ∙ ap (if_inside (with_frame (walk_from own t base m size j (k + 1)) fs k
      (step_in own t base m c >>= risen c)) fs k) i

  pub frames_over : (n k : ℕ) (c : SehContext) (fs : List SehFrame) → n ≡ 0
      → walk_from own t base m size n k c fs ≡ ended fs k (end (is_inside base size c))
  unfolding walk_from
  frames_over n k c fs e = ap (λ y. walk_from own t base m size y k c fs) e
