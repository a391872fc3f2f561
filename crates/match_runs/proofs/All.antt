-- A run of the machine shows what linear code shows.
use Rattle.std.proofs.Common.{◌≡◌, ℕ, zero, suc, ◌+◌, ◌-◌, ◌≤◌, false, Some, List, [], sym, ap, subst, ◌∙◌, arith}
use Rattle.std.proofs.lemmas.List.{append-nil}
use Rattle.std.specs.Prelude.{Option}
use Rattle.match_runs.specs.Words.{Shown, RunEnd, Event, State, Functions, host, run, Funclet, is_calm, Seen, shown, ShowsAll}
use Rattle.source_meaning.specs.declared.ended.Ended.{Ended}
use Rattle.host_model.specs.Laws.{IsShownFirst}
use Rattle.host_model.proofs.Longer.{begins, none_yet}
use Rattle.source_meaning.specs.declared.ended.Ended.TheVariants as source
use Rattle.match_runs.proofs.Lemmas.{prefix_then}
use Rattle.match_runs.proofs.MatchedRuns.{RunOutcome, RunsOn, Exited, Died, Failed, RunIsMatched}
use Rattle.match_runs.proofs.RunEnds.{HasEnded, returned, died, run_from}

-- a run that has ended as linear code has
ended_so : (seen : Seen) (x : Shown RunEnd) → HasEnded seen x → ShowsAll (shown seen) x
ended_so seen x h = record {
  shows = ([], ap (λ (y : Shown RunEnd). y.events) h.same ∙ sym (append-nil (shown seen).events));
  ends = λ f e. h.same
      ∙ ap (λ (o : Option RunEnd). record { events = (shown seen).events; end = o })
      (sym h.ends ∙ e);
}

-- an end that is none of the machine's claims no end
wild_so : (events : List Event) (end : Ended) (wild : is_calm (Some end) ≡ false) (x : Shown RunEnd)
    → IsShownFirst events x → ShowsAll (record { events = events; end = Some end }) x
wild_so events (source.Exit v) wild x begun = absurd cc
wild_so events (source.Unhandled code) wild x begun = absurd cc
wild_so events (source.OutOfSteps n) wild x begun = absurd cc
wild_so events (source.Undefined a) wild x begun = record { shows = begun; ends = λ e h. absurd cc }
wild_so events (source.Deep d) wild x begun = record { shows = begun; ends = λ e h. absurd cc }

module _ (t : Functions) (fs : List Funclet) where
  -- from where the turns end
  from_end : (least most turns left : ℕ) (s : State) (events : List Event) (seen : Seen)
      → most ≤ turns + left → RunOutcome t fs least most turns s events seen
      → ShowsAll (shown seen) (run t fs left (host s) events)
  from_end least most turns left s events seen enough
      (RunsOn rest last long still live is) =
      subst (λ x. ShowsAll (shown x) (run t fs left (host s) events)) (sym is)
      (none_yet events (run t fs left (host s) events) (begins t fs left (host s) events))
  from_end least most turns left s events seen enough (Exited over is) =
      ended_so seen (run t fs left (host s) events) (returned t fs left s events seen over is)
  from_end least most turns zero s events seen enough (Died last code few live dies is) =
      absurd (omega arith)
  from_end least most turns (suc left) s events seen enough (Died last code few live dies is) =
      ended_so seen (run t fs (suc left) (host s) events)
      (died t fs left s events last code seen live dies is)
  from_end least most turns left s events seen enough (Failed end before front wild is) =
      let b = begins t fs left (host s) events in
      let p = prefix_then before events (run t fs left (host s) events).events front
      (b.0, sym b.1) in
      subst (λ x. ShowsAll (shown x) (run t fs left (host s) events)) (sym is)
      (wild_so before end wild (run t fs left (host s) events) (p.0, sym p.1))

  -- in as many turns as match a run the machine shows what the run shows
  pub shows_all : (least most turns : ℕ) (s : State) (out : List Event) (seen : Seen)
      → RunIsMatched t fs least most s out seen → most ≤ turns
      → ShowsAll (shown seen) (run t fs turns (host s) out)
  shows_all least most turns s out seen r enough =
      let few = r.few in
      subst (ShowsAll (shown seen))
      (sym (run_from t fs least most turns s out seen r (omega arith)))
      (from_end least most r.turns (turns - r.turns) r.state _ seen (omega arith) r.outcome)
