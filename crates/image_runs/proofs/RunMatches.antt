-- Whole runs, by way of linear code.
use Rattle.std.proofs.Common.{◌≡◌, ℕ, ◌+◌, ◌*◌, true, Option, Some, None, List, [], ◌++◌, refl, sym, ap, ◌∙◌, arith}
use Rattle.std.proofs.lemmas.List.{append_assoc}
use Rattle.seh_num.specs.declared.event.Event.{Event}
use Rattle.image_runs.specs.Words.{RunEnd, Shown, host, run, Ended, meaning, is_calm, Seen, Running, Finished, Stuck, seen, linear_meaning, lowered, steps_per_turn_of, run_end_of, HasRule, ShowsAll, ShowsNoMore}
use Rattle.source_meaning.specs.Laws.{IsPrefixOf}
use Rattle.lowering_follows.proofs.ProgramLowering.{lowered_follows, lowered_shows_no_more}
use Rattle.source_meaning.proofs.Prefixes.{prefix_then}
use Rattle.match_runs.proofs.Programs.{programs_all, programs_no_more, programs_walk_the_shadow, enough}
use Rattle.image_runs.specs.MatchLaws.{turns_per_step, MatchedRunsShowAll, MatchedRunsShowNoMore, MatchedRunsWalkTheShadow}

-- what is never stuck has a rule
has_rule : (x : Seen) → ((es : List Event) → x ≡ Stuck es → ⊥) → HasRule x
has_rule (Running es) h = tt
has_rule (Finished e es) h = tt
has_rule (Stuck es) h = absurd (h es refl)

-- a run that shows all that linear code shows, which shows all that the program means
through : (meant linear : Shown Ended) (machine : Shown RunEnd)
    → IsPrefixOf meant.events linear.events → ((e : Ended) → meant.end ≡ Some e → linear ≡ meant)
    → ShowsAll linear machine → ShowsAll meant machine
through meant linear machine front same all = record {
  shows = (
    front.0 ++ all.shows.0,
    all.shows.1 ∙ ap (λ es. es ++ all.shows.0) (sym front.1)
        ∙ append_assoc meant.events front.0 all.shows.0,
  );
  ends = λ e h. by meant.end refl e h;
}
  where
    by : (end : Option Ended) → meant.end ≡ end → (e : RunEnd) → run_end_of end ≡ Some e
        → machine ≡ record { events = meant.events; end = Some e }
    by None g e h = cc
    by (Some x) g e h =
        let is : linear ≡ meant = same x g in
        all.ends e (ap (λ (z : Shown Ended). run_end_of z.end) is ∙ ap run_end_of g ∙ h)
        ∙ ap (λ (z : Shown Ended). let o : Shown
        RunEnd = record { events = z.events; end = Some e } in o) is

-- a run that shows no more than linear code, which shows no more than the program means
back : (meant linear : Shown Ended) (machine : Shown RunEnd) → IsPrefixOf linear.events meant.events
    → ((e : Ended) → linear.end ≡ Some e → meant ≡ linear) → ShowsNoMore linear machine
    → ShowsNoMore meant machine
back meant linear machine front same less = record {
  shows = prefix_then machine.events linear.events meant.events less.shows front;
  ends = λ e h. by linear.end refl e (less.ends e h);
}
  where
    by : (end : Option Ended) → linear.end ≡ end → (e : RunEnd)
        → (run_end_of linear.end ≡ Some e) × (machine.events ≡ linear.events)
        → (run_end_of meant.end ≡ Some e) × (machine.events ≡ meant.events)
    by None g e h = absurd (let no : None ≡ Some e = sym (ap run_end_of g) ∙ h.0 in cc)
    by (Some x) g e h = let is : meant ≡ linear = same x g in (
      ap (λ (z : Shown Ended). run_end_of z.end) is ∙ h.0,
      h.1
          ∙ ap (λ (z : Shown Ended). z.events) (sym is),
    )

-- linear code is calm where the program is
calm_too : (meant linear : Shown Ended) → ((e : Ended) → linear.end ≡ Some e → meant ≡ linear)
    → is_calm meant.end ≡ true → is_calm linear.end ≡ true
calm_too meant linear same calm = by linear.end refl
  where
    by : (end : Option Ended) → linear.end ≡ end → is_calm linear.end ≡ true
    by None g = ap is_calm g
    by (Some x) g = ap (λ (z : Shown Ended). is_calm z.end) (sym (same x g)) ∙ calm

pub all : MatchedRunsShowAll
all t fs program sound credit arg first n s begins few =
    let turns : ℕ = 16 * n + 6 in
    let follows = lowered_follows program sound arg n turns (omega arith) in
    let rest = lowered_shows_no_more program sound arg turns
    ((turns + 1) * steps_per_turn_of program)
    (omega arith) in
    let rule = has_rule (seen (lowered program) arg turns) rest.2 in
    let time = enough n first few in
    through (meaning program arg n) (linear_meaning (lowered program) arg turns)
    (run t fs (256 * n + 256) (host s) []) follows.0 follows.1
    (programs_all t fs (lowered program) turns_per_step credit arg first turns (256 * n + 256) s
    begins rule
    time)

pub no_more : MatchedRunsShowNoMore
no_more t fs program sound credit arg first m n s begins enough_steps calm =
    let rest = lowered_shows_no_more program sound arg m n enough_steps in
    let rule = has_rule (seen (lowered program) arg m) rest.2 in
    back (meaning program arg n) (linear_meaning (lowered program) arg m) (run t fs m (host s) [])
    rest.0 rest.1
    (programs_no_more t fs (lowered program) turns_per_step credit arg first m m s begins
    (record {
      rule = rule;
      calm = calm_too (meaning program arg n)
          (linear_meaning (lowered program) arg m) rest.1 calm;
    }) (omega arith))

pub shadow : MatchedRunsWalkTheShadow
shadow t fs program sound credit arg first m n s cs begins enough_steps calm walk none =
    let rest = lowered_shows_no_more program sound arg m n enough_steps in
    let rule = has_rule (seen (lowered program) arg m) rest.2 in
    programs_walk_the_shadow t fs (lowered program) turns_per_step credit arg first m m s cs begins
    (record {
      rule = rule;
      calm = calm_too (meaning program arg n)
          (linear_meaning (lowered program) arg m) rest.1 calm;
    }) (omega arith) walk none
