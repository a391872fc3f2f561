-- At every turn of a run that has not ended the walk gives the shadow.
use Rattle.std.proofs.Common.{◌≡◌, inl, inr, ℕ, zero, suc, ◌+◌, ◌-◌, ◌<◌, ◌≤◌, Some, None, List, [], ◌++◌, refl, sym, ap, subst, ◌∙◌, arith}
use Rattle.std.proofs.lemmas.Bool.{cases_lt}
use Rattle.std.specs.Prelude.{Option}
use Rattle.match_runs.specs.Words.{Shown, RunEnd, Event, State, Context, Functions, host, turn, run, Continues, Funclet, Seen, Comes, IsLive, IsCalm, WalkGives, shadow_after}
use Rattle.match_runs.specs.Shadowed.{by_turn, unless_over, shadowed, WalkGivesShadow}
use Rattle.match_runs.proofs.Turns.{comes_then}
use Rattle.match_runs.proofs.MatchedRuns.{RunOutcome, RunsOn, Exited, Died, Failed, RunIsMatched}
use Rattle.match_runs.proofs.RunEnds.{HasEnded, returned, died, run_from}
use Rattle.match_runs.proofs.NoMore.{not_wild}

abbrev HasNoEnd : Shown RunEnd → Type 0
HasNoEnd x = x.end ≡ None

has_end : (seen : Seen) (x : Shown RunEnd) → HasEnded seen x → HasNoEnd x → ⊥
has_end seen x h none = let z : ◌≡◌ {A = Option RunEnd} None (Some h.end) = sym none
    ∙ ap (λ (y : Shown RunEnd). y.end) h.same in cc

module _ (t : Functions) (fs : List Funclet) where
  -- after a turn that leads on
  one_more : (m : ℕ) (s u : State) (cs : List Context) (es : List Event) → IsLive s
      → turn t fs s ≡ Continues u es → shadowed (suc m) t fs s cs
      ≡ shadowed m t fs u (shadow_after t fs s u cs)
  unfolding shadowed
  one_more m s u cs es live e = ap (unless_over (by_turn t fs (shadowed m t fs) s cs (turn t fs s)))
      live ∙ ap (by_turn t fs (shadowed m t fs) s cs) e

  at_once : (s : State) (cs : List Context) → WalkGives t s cs → WalkGivesShadow t fs zero s cs
  unfolding shadowed
  at_once s cs w = record { there = record { state = s; shadow = cs }; comes = refl; walk = w }

  -- at each of some turns
  along : (k m : ℕ) (s u : State) (cs : List Context) (events : List Event)
      → Comes t fs k s events u → m ≤ k → WalkGives t s cs → WalkGivesShadow t fs m s cs
  along k zero s u cs events r le w = at_once s cs w
  along zero (suc m) s u cs events r le w = absurd (omega arith)
  along (suc k) (suc m) s u cs events r le w =
      let x = along k m r.state u (shadow_after t fs s r.state cs) r.others r.rest (omega arith)
      (r.shadow cs w) in
      record {
        there = x.there;
        comes = one_more m s r.state cs r.first r.live r.turns ∙ x.comes;
        walk = x.walk;
      }

  -- past the turns that match a calm run of so many steps, silent ones follow, or the machine has
  -- ended
  later : (least most turns left : ℕ) (s u : State) (cs : List Context) (shown events : List Event)
      (seen : Seen) → Comes t fs turns s shown u → IsCalm seen → 0 < left → turns + left ≤ least
      → WalkGives t s cs → RunOutcome t fs least most turns u events seen
      → HasNoEnd (run t fs left (host u) events) → WalkGivesShadow t fs (turns + left) s cs
  later least most turns left s u cs shown events seen comes calm some fewer w
      (RunsOn rest last long silent live is) none =
      along (turns + rest) (turns + left) s last cs (shown ++ [])
      (comes_then t fs turns rest s u last shown [] comes silent) (omega arith) w
  later least most turns left s u cs shown events seen comes calm some fewer w (Exited over is)
      none =
      absurd (has_end seen (run t fs left (host u) events)
      (returned t fs left u events seen over is) none)
  later least most turns zero s u cs shown events seen comes calm some fewer w
      (Died last code few live dies is) none = absurd (omega arith)
  later least most turns (suc left) s u cs shown events seen comes calm some fewer w
      (Died last code few live dies is) none =
      absurd (has_end seen (run t fs (suc left) (host u) events)
      (died t fs left u events last code seen live dies is) none)
  later least most turns left s u cs shown events seen comes calm some fewer w
      (Failed end before front wild is) none = absurd (not_wild end before seen wild is calm)

  -- so as long as a run has not ended, the walk gives the shadow
  pub walks_the_shadow : (least most m : ℕ) (s : State) (cs : List Context) (out : List Event)
      (seen : Seen) → RunIsMatched t fs least most s out seen → IsCalm seen → m ≤ least
      → WalkGives t s cs → HasNoEnd (run t fs m (host s) out) → WalkGivesShadow t fs m s cs
  walks_the_shadow least most m s cs out seen r calm fewer w none =
      elim (cases_lt r.turns m) as (λ _. WalkGivesShadow t fs m s cs) [
        | inl lt ↦ (let whole : r.turns + (m - r.turns) ≡ m = omega arith in
            subst (λ n. WalkGivesShadow t fs n s cs) whole
            (later least most r.turns (m - r.turns) s r.state cs r.events (out ++ r.events) seen
            r.comes calm (omega arith) (omega arith) w r.outcome
            (subst HasNoEnd (run_from t fs least most m s out seen r (omega arith)) none)))
        | inr le ↦ along r.turns m s r.state cs r.events r.comes le w
      ]
