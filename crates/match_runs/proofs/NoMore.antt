-- A run of the machine shows no more than linear code, and ends only as that ends.
use Rattle.std.proofs.Common.{◌≡◌, inl, inr, ℕ, zero, suc, ◌+◌, ◌-◌, ◌<◌, ◌≤◌, true, false, Some, None, List, ◌++◌, sym, ap, subst, ◌∙◌, arith}
use Rattle.std.proofs.lemmas.Bool.{cases_lt}
use Rattle.match_runs.specs.Words.{Shown, RunEnd, Event, State, Functions, host, run, Funclet, IsPrefixOf, is_calm, Finished, Seen, shown, Comes, IsCalm, ShowsNoMore}
use Rattle.source_meaning.specs.declared.ended.Ended.{Ended}
use Rattle.match_runs.proofs.Lemmas.{prefix_same, prefix_then, prefix_after}
use Rattle.match_runs.proofs.Turns.{partway, run_pauses, still}
use Rattle.match_runs.proofs.MatchedRuns.{RunOutcome, RunsOn, Exited, Died, Failed, RunIsMatched}
use Rattle.match_runs.proofs.RunEnds.{HasEnded, returned, died, run_from}

-- while a run has no end
continues : (meant : Shown Ended) (x : Shown RunEnd) (events : List Event)
    → x ≡ record { events = events; end = None } → IsPrefixOf events meant.events
    → ShowsNoMore meant x
continues meant x events same front = record {
  shows = subst (λ (es : List Event). IsPrefixOf es meant.events)
      (sym (ap (λ (y : Shown RunEnd). y.events) same)) front;
  ends = λ e h. absurd (let no : None ≡ Some e = sym (ap (λ (y : Shown RunEnd). y.end) same) ∙ h in
      cc);
}

-- a run that has ended as linear code has
ended_as : (seen : Seen) (x : Shown RunEnd) → HasEnded seen x → ShowsNoMore (shown seen) x
ended_as seen x h =
    let all = ap (λ (y : Shown RunEnd). y.events) h.same in
    record {
      shows = prefix_same x.events (shown seen).events all;
      ends = λ f e. (h.ends ∙ sym (ap (λ (y : Shown RunEnd). y.end) h.same) ∙ e, all);
    }

-- what ends so is not calm
pub not_wild : (end : Ended) (events : List Event) (seen : Seen) → is_calm (Some end) ≡ false
    → seen ≡ Finished end events → IsCalm seen → ⊥
not_wild end events seen wild is calm =
    let no : false ≡ true = sym wild ∙ ap (λ (x : Seen). is_calm (shown x).end) (sym is)
    ∙ calm.calm in absurd cc

module _ (t : Functions) (fs : List Funclet) where
  -- partway through turns that match
  within : (meant : Shown Ended) (k m : ℕ) (s u : State) (out events : List Event)
      → Comes t fs k s events u → m < k → IsPrefixOf (out ++ events) meant.events
      → ShowsNoMore meant (run t fs m (host s) out)
  within meant k m s u out events comes lt front =
      let x = partway t fs k m s u out events comes lt in
      continues meant (run t fs m (host s) out) (out ++ x.part) x.runs
      (prefix_then (out ++ x.part) (out ++ events) meant.events
      (prefix_after out x.part events (x.others, sym x.whole)) front)

  -- what those turns show is the front
  shown_first : (least most turns : ℕ) (s : State) (events : List Event) (seen : Seen)
      → IsCalm seen → RunOutcome t fs least most turns s events seen
      → IsPrefixOf events (shown seen).events
  shown_first least most turns s events seen calm
      (RunsOn rest last long silent live is) =
      prefix_same events (shown seen).events (ap (λ (x : Seen). (shown x).events) (sym is))
  shown_first least most turns s events seen calm (Exited over is) =
      prefix_same events (shown seen).events (ap (λ (x : Seen). (shown x).events) (sym is))
  shown_first least most turns s events seen calm (Died last code few live dies is) =
      (last, ap (λ (x : Seen). (shown x).events) (sym is))
  shown_first least most turns s events seen calm (Failed end before front wild is) =
      absurd (not_wild end before seen wild is calm)

  -- from where they end
  from_end : (least most turns left : ℕ) (s : State) (events : List Event) (seen : Seen)
      → IsCalm seen → turns + left ≤ least → RunOutcome t fs least most turns s events seen
      → ShowsNoMore (shown seen) (run t fs left (host s) events)
  from_end least most turns left s events seen calm fewer
      (RunsOn rest last long silent live is) =
      continues (shown seen) (run t fs left (host s) events) events
      (still t fs rest left s last events silent live (omega arith))
      (shown_first least most turns s events seen calm (RunsOn rest last long silent live is))
  from_end least most turns left s events seen calm fewer (Exited over is) =
      ended_as seen (run t fs left (host s) events) (returned t fs left s events seen over is)
  from_end least most turns zero s events seen calm fewer (Died last code few live dies is) =
      continues (shown seen) (run t fs zero (host s) events) events (run_pauses t fs s events live)
      (shown_first least most turns s events seen calm (Died last code few live dies is))
  from_end least most turns (suc left) s events seen calm fewer (Died last code few live dies is) =
      ended_as seen (run t fs (suc left) (host s) events)
      (died t fs left s events last code seen live dies is)
  from_end least most turns left s events seen calm fewer (Failed end before front wild is) =
      absurd (not_wild end before seen wild is calm)

  -- in as many turns as steps at most the machine shows no more than a run that is matched
  pub shows_no_more : (least most m : ℕ) (s : State) (out : List Event) (seen : Seen)
      → RunIsMatched t fs least most s out seen → IsCalm seen → m ≤ least
      → ShowsNoMore (shown seen) (run t fs m (host s) out)
  shows_no_more least most m s out seen r calm fewer =
      elim (cases_lt m r.turns) as (λ _. ShowsNoMore (shown seen) (run t fs m (host s) out)) [
        | inl lt ↦ within (shown seen) r.turns m s r.state out r.events r.comes lt
            (shown_first least most r.turns r.state (out ++ r.events) seen calm r.outcome)
        | inr le ↦ subst (ShowsNoMore (shown seen))
            (sym (run_from t fs least most m s out seen r le))
            (from_end least most r.turns (m - r.turns) r.state (out ++ r.events) seen calm
            (omega arith) r.outcome)
      ]
