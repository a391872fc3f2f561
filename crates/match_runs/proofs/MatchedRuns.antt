-- A run of linear code whose steps are matched, and the turns of the machine that match all of it.
use Rattle.std.proofs.Common.{◌≡◌, inl, inr, ℕ, zero, suc, ◌+◌, ◌-◌, ◌*◌, ◌<◌, ◌≤◌, false, Some, List, [], ◌++◌, sym, ap, subst, ◌∙◌, arith, append_assoc}
use Rattle.std.proofs.Math.Nat.{mul-suc}
use Rattle.std.proofs.lemmas.Bool.{cases_lt}
use Rattle.std.proofs.lemmas.List.{append-nil}
use Rattle.match_runs.specs.Words.{signed, Code, Event, W32, Rax, State, register, Functions, turn, Ends, Funclet, IsPrefixOf, is_calm, LinearProgram, Instruction, Configuration, Finished, Running, Stuck, Seen, Next, act, instruction_at, exec, Comes, IsLive, HasRule, turns_ahead, Begins, IsMatched, StepsAreMatched}
use Rattle.source_meaning.specs.declared.ended.Ended.{Ended}
use Rattle.seh_num.specs.declared.end.RunEnd.TheVariants as ends
use Rattle.source_meaning.specs.declared.ended.Ended.TheVariants as source
use Rattle.match_runs.proofs.Lemmas.{prefix_after}
use Rattle.match_runs.proofs.Turns.{comes_nowhere, comes_then}
use Rattle.match_runs.proofs.Taken.{MovesSilently, Takes, taken}
use Rattle.match_runs.proofs.Steps.{at_instruction, matched_step}

module _ (t : Functions) (fs : List Funclet) where
  -- how the turns that match a run end: what the run shows is seen, and these events are shown
  pub data RunOutcome (least most turns : ℕ) (s : State) (events : List Event)
      (seen : Seen) : Type 0 where
    -- the run continues, after as many turns as steps at least; the last of them show nothing
    RunsOn : (rest : ℕ) (last : State) → least ≤ turns + rest → Comes t fs rest s [] last
        → IsLive last → seen ≡ Running events → RunOutcome least most turns s events seen
    -- the program has returned
    Exited : s.cpu.rip ≡ 0
        → seen ≡ Finished (source.Exit (signed W32 (register s.cpu Rax))) events
        → RunOutcome least most turns s events seen
    -- nobody handles an exception, and one turn more ends the run
    Died : (last : List Event) (code : Code) → turns < most → IsLive s
        → turn t fs s ≡ Ends last (ends.Unhandled code)
        → seen ≡ Finished (source.Unhandled code) (events ++ last)
        → RunOutcome least most turns s events seen
    -- linear code has ended otherwise, and the machine shows what it has shown
    Failed : (end : Ended) (shown : List Event) → IsPrefixOf shown events
        → is_calm (Some end) ≡ false → seen ≡ Finished end shown
        → RunOutcome least most turns s events seen

  -- turns, at most so many, match a run that shows this after some events; where the run continues,
  -- there are at least so many, with silent ones after them
  pub record RunIsMatched (least most : ℕ) (s : State) (out : List Event)
      (seen : Seen) : Type 0 where
    pub turns : ℕ
    pub few : turns ≤ most
    pub state : State
    pub events : List Event
    pub comes : Comes t fs turns s events state
    pub outcome : RunOutcome least most turns state (out ++ events) seen

  -- a run has ended
  abbrev pub IsOver : Seen → Type 0
  IsOver (Running es) = ⊥
  IsOver (Finished e es) = Unit {0}
  IsOver (Stuck es) = Unit {0}

  -- a run is matched within so many turns without those that were ahead of it; where it has ended,
  -- it has made up for these
  pub record RunIsPaid (least total ahead : ℕ) (s : State) (out : List Event)
      (seen : Seen) : Type 0 where
    pub run : RunIsMatched least (total - ahead) s out seen
    pub paid : IsOver seen → ahead ≤ total

  -- the same with turns before them
  turns_before : (k least more least' most : ℕ) (s u : State) (out events : List Event)
      (seen : Seen) → least' ≤ k + least → k + more ≤ most → Comes t fs k s events u
      → RunIsMatched least more u (out ++ events) seen → RunIsMatched least' most s out seen
  turns_before k least more least' most s u out events seen enough few comes r = record {
    turns = k + r.turns;
    few = let l = r.few in omega arith;
    state = r.state;
    events = events ++ r.events;
    comes = comes_then t fs k r.turns s u r.state events r.events comes r.comes;
    outcome = subst (λ es. RunOutcome least' most (k + r.turns) r.state es seen)
        (append_assoc out events r.events)
        (later r.turns r.state ((out ++ events) ++ r.events) r.outcome);
  }
    where
      later : (turns : ℕ) (v : State) (es : List Event) → RunOutcome least more turns v es seen
          → RunOutcome least' most (k + turns) v es seen
      later turns v es (RunsOn rest last long silent live is) =
          RunsOn rest last (omega arith) silent live is
      later turns v es (Exited over is) = Exited over is
      later turns v es (Died last code left live dies is) = Died last code (omega arith) live dies
          is
      later turns v es (Failed end shown front wild is) = Failed end shown front wild is

  -- where no turns are left to show anything, a run that goes on has shown nothing
  stands : (k least least' most : ℕ) (s u : State) (out : List Event) (seen : Seen)
      → least' ≤ k + least → Comes t fs k s [] u → (IsOver seen → ⊥)
      → RunIsMatched least 0 u out seen → RunIsMatched least' most s out seen
  stands k least least' most s u out seen enough comes on r = record {
    turns = 0;
    few = omega arith;
    state = s;
    events = [];
    comes = comes_nowhere t fs s;
    outcome = by r.outcome;
  }
    where
      none : r.turns ≡ 0
      none = let few = r.few in omega arith

      at_once : (r.events ≡ []) × (u ≡ r.state)
      at_once = subst (λ n. Comes t fs n u r.events r.state) none r.comes

      by : RunOutcome least 0 r.turns r.state (out ++ r.events) seen
          → RunOutcome least' most 0 s (out ++ []) seen
      by (RunsOn rest last long silent live is) =
          RunsOn (k + rest) last (omega (arith, none))
          (comes_then t fs k rest s u last [] [] comes
          (subst (λ v. Comes t fs rest v [] last) (sym at_once.1) silent)) live
          (is ∙ ap (λ es. Running (out ++ es)) at_once.0)
      by (Exited over is) = absurd (on (subst IsOver (sym is) tt))
      by (Died last code left live dies is) = absurd (on (subst IsOver (sym is) tt))
      by (Failed end shown front wild is) = absurd (on (subst IsOver (sym is) tt))

  -- turns that show nothing before a run may take what is ahead of it
  pub silent_before : (k least more ahead least' most ahead' : ℕ) (s u : State) (out : List Event)
      (seen : Seen) → least' ≤ k + least → k + more + ahead' ≤ most + ahead → Comes t fs k s [] u
      → RunIsPaid least more ahead u out seen → RunIsPaid least' most ahead' s out seen
  silent_before k least more ahead least' most ahead' s u out seen enough few comes r = record {
    run = elim (cases_lt more ahead) as (λ _. RunIsMatched least' (most - ahead') s out seen) [
      | inl lt ↦ (let none : more - ahead ≡ 0 = omega arith in
          stands k least least' (most - ahead') s u out seen enough comes
          (λ over. let paid = r.paid over in omega arith)
          (subst (λ n. RunIsMatched least n u out seen) none r.run))
      | inr le ↦ turns_before k least (more - ahead) least' (most - ahead') s u out [] seen enough
          (omega arith) comes
          (subst (λ es. RunIsMatched least (more - ahead) u es seen) (sym (append-nil out)) r.run)
    ];
    paid = λ over. let paid = r.paid over in omega arith;
  }

module _ (t : Functions) (fs : List Funclet) (program : LinearProgram) (turns_per_step : ℕ)
    (credit : Configuration → ℕ) where
  abbrev AreMatched : ℕ → State → Configuration → Type 0
  AreMatched = StepsAreMatched t fs program turns_per_step credit

  abbrev ahead : Configuration → ℕ
  ahead c = turns_ahead program turns_per_step c

  -- so many steps from here
  abbrev RunFrom : ℕ → State → Configuration → Type 0
  RunFrom n s c =
      RunIsPaid t fs n (turns_per_step * n + credit c) (ahead c) s c.events (exec program n c)

  no_steps : (s : State) (c : Configuration) → IsLive s → RunFrom zero s c
  unfolding exec
  no_steps s c live = record {
    run = record {
      turns = 0;
      few = omega arith;
      state = s;
      events = [];
      comes = comes_nowhere t fs s;
      outcome = RunsOn 0 s (omega arith) (comes_nowhere t fs s) live
          (ap (λ (es : List Event). Running es) (sym (append-nil c.events)));
    };
    paid = λ over. absurd over;
  }

  module _ (n : ℕ) (s : State) (c : Configuration) (i : Instruction)
      (at : instruction_at program c ≡ Some i)
      (rest : (u : State) (d : Configuration) → AreMatched n u d → HasRule (exec program n d)
      → RunFrom n u d) (rule : HasRule (exec program (suc n) c)) where
    abbrev Total : ℕ
    Total = turns_per_step * suc n + credit c

    abbrev Shows : Seen → Type 0
    Shows seen = RunIsPaid t fs (suc n) Total (ahead c) s c.events seen

    most : turns_per_step * suc n ≡ turns_per_step * n + turns_per_step
    most = mul-suc turns_per_step n ∙ omega arith

    -- where linear code continues
    leads_to : (d : Configuration) → ((next : Next) → act program i next c ≡ next d)
        → exec program (suc n) c ≡ exec program n d
    leads_to d acts = at_instruction program n c i at ∙ acts (exec program n)

    silently : MovesSilently t fs program turns_per_step credit (AreMatched n) s c i
        → RunFrom (suc n) s c
    silently v =
        let few = v.few in
        let some = v.some in
        let bound = most in
        let e = leads_to v.configuration v.acts in
        let d = v.configuration in
        subst Shows (sym e)
        (silent_before t fs v.turns n (turns_per_step * n + credit d) (ahead d) (suc n) Total
        (ahead c) s v.state c.events (exec program n d) (omega arith) (omega arith) v.comes
        (subst (λ es. RunIsPaid t fs n (turns_per_step * n + credit d) (ahead d) v.state es
        (exec program n d)) v.shown
        (rest v.state d v.is_there (subst HasRule e rule))))

    module _ (none : ahead c ≡ 0) where
      -- a step that ends linear code
      ends_so : (turns : ℕ) (u : State) (events : List Event) → turns ≤ turns_per_step + credit c
          → Comes t fs turns s events u
          → RunOutcome t fs (suc n) (Total - ahead c) turns u (c.events ++ events)
          (exec program (suc n) c) → RunFrom (suc n) s c
      ends_so turns u events few comes outcome = let bound = most in record {
        run = record {
          turns = turns;
          few = omega (arith, none);
          state = u;
          events = events;
          comes = comes;
          outcome = outcome;
        };
        paid = λ over. omega (arith, none);
      }

      plainly : IsMatched t fs program turns_per_step credit (AreMatched n) s c i
          → RunFrom (suc n) s c
      plainly (inl v) =
          let few = v.few in
          let some = v.some in
          let bound = most in
          let e = leads_to v.configuration v.acts in
          let d = v.configuration in
          let more = turns_per_step * n + credit d - ahead d in
          record {
            run = subst (RunIsMatched t fs (suc n) (Total - ahead c) s c.events) (sym e)
                (turns_before t fs v.turns n more (suc n) (Total - ahead c) s v.state c.events
                v.events (exec program n d) (omega arith) (omega (arith, none)) v.comes
                (subst (λ es. RunIsMatched t fs n more v.state es (exec program n d)) v.shown
                (rest v.state d v.is_there (subst HasRule e rule)).run));
            paid = λ over. omega (arith, none);
          }
      plainly (inr (inl v)) =
          ends_so v.turns v.state v.events v.few v.comes
          (Exited v.over (at_instruction program n c i at ∙ v.acts (exec program n)
          ∙ ap (λ a. Finished (source.Exit a) (c.events ++ v.events)) (sym v.answer)))
      plainly (inr (inr (inl v))) =
          let few = v.few in
          let bound = most in
          ends_so v.turns v.state v.events (omega arith) v.comes
          (Died v.last v.code (omega (arith, none)) v.live v.ends
          (at_instruction program n c i at ∙ v.acts (exec program n)
          ∙ ap (λ (es : List Event). Finished (source.Unhandled v.code) es)
          (sym (append_assoc c.events v.events v.last))))
      plainly (inr (inr (inr v))) =
          ends_so v.turns v.state v.made v.few v.comes
          (Failed v.end (c.events ++ v.events)
          (prefix_after c.events v.events v.made v.front) v.wild
          (at_instruction program n c i at ∙ v.acts (exec program n)))

      -- a function begins: what is shown comes first, and the turns after it may take what is ahead
      begins : Begins t fs program turns_per_step credit (AreMatched n) s c i → RunFrom (suc n) s c
      begins v =
          let few = v.few in
          let some = v.some in
          let soon = v.soon in
          let bound = most in
          let e = leads_to v.configuration v.acts in
          let d = v.configuration in
          let left = Total - v.first in
          let run : RunIsPaid t fs n (turns_per_step * n + credit d) (ahead d) v.state
          (c.events ++ v.events) (exec program n d) = subst
          (λ es. RunIsPaid t fs n (turns_per_step * n + credit d) (ahead d) v.state es
          (exec program n d)) v.shown (rest v.state d v.is_there (subst HasRule e rule)) in
          let after = silent_before t fs v.turns n (turns_per_step * n + credit d) (ahead d)
          (v.turns + n) left 0 v.middle v.state (c.events ++ v.events) (exec program n d)
          (omega arith) (omega arith) v.comes run in
          record {
            run = subst (RunIsMatched t fs (suc n) (Total - ahead c) s c.events) (sym e)
                (turns_before t fs v.first (v.turns + n) (left - 0) (suc n) (Total - ahead c) s
                v.middle c.events v.events (exec program n d) (omega arith) (omega (arith, none))
                v.shows after.run);
            paid = λ over. omega (arith, none);
          }

    one_step : Takes t fs program turns_per_step credit (AreMatched n) s c i → RunFrom (suc n) s c
    one_step (inl m) = elim m.1 [ inl x ↦ plainly m.0 x | inr v ↦ begins m.0 v ]
    one_step (inr v) = silently v

  -- steps that are matched one after another make a run that is matched
  pub matched_run : (n : ℕ) (s : State) (c : Configuration)
      → AreMatched n s c → HasRule (exec program n c) → RunFrom n s c
  matched_run zero s c steps rule = no_steps s c steps
  matched_run (suc n) s c steps rule =
      let x = matched_step t fs program turns_per_step credit (AreMatched n) n s c steps rule in
      one_step n s c x.instruction x.at (λ u d. matched_run n u d) rule
      (taken t fs program turns_per_step credit (AreMatched n) s c x.instruction x.at x.matched)
