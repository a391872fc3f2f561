-- Turns one after another, and the runs that they belong to.
use Rattle.std.proofs.Common.{◌≡◌, inl, inr, ℕ, zero, suc, ◌+◌, ◌<◌, ◌≤◌, Bool, Some, None, Ok, List, [], ◌∷◌, ◌++◌, refl, sym, ap, subst, ◌∙◌, arith, append_assoc}
use Rattle.std.proofs.lemmas.List.{append-nil}
use Rattle.std.proofs.lemmas.Bool.{cases_lt}
use Rattle.std.specs.Prelude.{◌==◌}
use Rattle.match_runs.specs.Words.{Shown, signed, RunEnd, Event, W32, Rax, State, register, step, Functions, distance, arrivals, arrived, host, turn, Ended, over, turned, end_of, run, or_turn, continued_by, Continues, Ends, Funclet, Comes, IsLive, KeepsShadow}
use Rattle.seh_num.specs.declared.end.RunEnd.TheVariants as ends

module _ (t : Functions) (fs : List Funclet) where
  -- ---- turns

  pub comes_nowhere : (s : State) → Comes t fs 0 s [] s
  comes_nowhere s = (refl, refl)

  pub comes_one : (s u : State) (events : List Event) → IsLive s → turn t fs s ≡ Continues u events
      → KeepsShadow t fs s u → Comes t fs 1 s events u
  comes_one s u events live e keeps = record {
    live = live;
    state = u;
    first = events;
    others = [];
    turns = e;
    shadow = keeps;
    whole = sym (append-nil events);
    rest = (refl, refl);
  }

  -- an instruction that is run, with the event of the funclet at which RIP arrives, if it does
  pub comes_by_step : (s u : State) → IsLive s → step s ≡ Ok u → KeepsShadow t fs s u
      → Comes t fs 1 s (arrivals u.cpu (distance t.base u.cpu.rip) 1 fs) u
  unfolding turn
  comes_by_step s u live e keeps = comes_one s u (arrivals u.cpu (distance t.base u.cpu.rip) 1 fs)
      live (ap (λ x. arrived t fs (turned t s x)) e) keeps

  pub comes_then : (k n : ℕ) (s u w : State) (a b : List Event) → Comes t fs k s a u
      → Comes t fs n u b w → Comes t fs (k + n) s (a ++ b) w
  comes_then zero n s u w a b r q =
      let e : n ≡ 0 + n = omega arith in
      subst (λ m. Comes t fs m s (a ++ b) w) e
      (subst (λ (x : List Event). Comes t fs n s (x ++ b) w) (sym r.0)
      (subst (λ (v : State). Comes t fs n v b w) (sym r.1) q))
  comes_then (suc k) n s u w a b r q =
      let e : suc (k + n) ≡ suc k + n = omega arith in
      subst (λ m. Comes t fs m s (a ++ b) w) e (record {
        live = r.live;
        state = r.state;
        first = r.first;
        others = r.others ++ b;
        turns = r.turns;
        shadow = r.shadow;
        whole = ap (λ (x : List Event). x ++ b) r.whole ∙ append_assoc r.first r.others b;
        rest = comes_then k n r.state u w r.others b r.rest q;
      })

  -- ---- runs

  pub run_live : (n : ℕ) (s : State) (out : List Event) → IsLive s
      → run t fs (suc n) (host s) out ≡ continued_by (run t fs n) out (turn t fs s)
  unfolding run
  run_live n s out e = ap (λ (b : Bool). or_turn t fs (run t fs n) out (over s b)) e

  pub run_ended : (n : ℕ) (e : RunEnd) (out : List Event)
      → run t fs n (Ended e) out ≡ record { events = out; end = Some e }
  unfolding run
  run_ended zero e out = refl
  run_ended (suc n) e out = refl

  pub run_returned : (n : ℕ) (s : State) (out : List Event) → s.cpu.rip ≡ 0
      → run t fs n (host s) out ≡ record {
        events = out;
        end = Some (ends.Exit (signed W32 (register s.cpu Rax)));
      }
  run_returned n s out e = ap (λ a. run t fs n (over s (a == 0)) out) e
      ∙ run_ended n (ends.Exit (signed W32 (register s.cpu Rax))) out

  -- a run begins with the turns that it makes first
  pub run_comes : (k n : ℕ) (s u : State) (out events : List Event) → Comes t fs k s events u
      → run t fs (k + n) (host s) out ≡ run t fs n (host u) (out ++ events)
  run_comes zero n s u out events r =
      let e : 0 + n ≡ n = omega arith in
      ap (λ m. run t fs m (host s) out) e ∙ ap (λ (v : State). run t fs n (host v) out) r.1
      ∙ ap (run t fs n (host u)) (sym (append-nil out))
      ∙ ap (λ (x : List Event). run t fs n (host u) (out ++ x)) (sym r.0)
  run_comes (suc k) n s u out events r =
      let e : suc k + n ≡ suc (k + n) = omega arith in
      ap (λ m. run t fs m (host s) out) e ∙ run_live (k + n) s out r.live
      ∙ ap (continued_by (run t fs (k + n)) out) r.turns
      ∙ run_comes k n r.state u (out ++ r.first) r.others r.rest
      ∙ ap (run t fs n (host u)) (append_assoc out r.first r.others)
      ∙ ap (λ (x : List Event). run t fs n (host u) (out ++ x)) (sym r.whole)

  -- a run that ends by its next turn
  pub run_dies : (n : ℕ) (s : State) (out last : List Event) (e : RunEnd) → IsLive s
      → turn t fs s ≡ Ends last e → run t fs (suc n) (host s) out
      ≡ record { events = out ++ last; end = Some e }
  run_dies n s out last e live ends = run_live n s out live
      ∙ ap (continued_by (run t fs n) out) ends ∙ run_ended n e (out ++ last)

  -- ---- partway through turns

  pub run_pauses : (s : State) (out : List Event) → IsLive s
      → run t fs zero (host s) out ≡ record { events = out; end = None }
  unfolding run
  run_pauses s out e = ap (λ (b : Bool). record { events = out; end = end_of (over s b) }) e

  -- a part of the events has been shown, and there is no end
  pub record IsPartway (m : ℕ) (s : State) (out events : List Event) : Type 0 where
    pub part : List Event
    pub others : List Event
    pub whole : events ≡ part ++ others
    pub runs : run t fs m (host s) out ≡ record { events = out ++ part; end = None }

  pub partway : (k m : ℕ) (s u : State) (out events : List Event) → Comes t fs k s events u → m < k
      → IsPartway m s out events
  partway zero m s u out events r lt = absurd (omega arith)
  partway (suc k) zero s u out events r lt =
      record {
        part = [];
        others = events;
        whole = refl;
        runs = run_pauses s out r.live
            ∙ ap (λ (x : List Event). record { events = x; end = None }) (sym (append-nil out));
      }
  partway (suc k) (suc m) s u out events r lt =
      let x = partway k m r.state u (out ++ r.first) r.others r.rest (omega arith) in
      record {
        part = r.first ++ x.part;
        others = x.others;
        whole = r.whole ∙ ap (λ (ys : List Event). r.first ++ ys) x.whole
            ∙ sym (append_assoc r.first x.part x.others);
        runs = run_live m s out r.live ∙ ap (continued_by (run t fs m) out) r.turns ∙ x.runs
            ∙ ap (λ (ys : List Event). record { events = ys; end = None })
            (append_assoc out r.first x.part);
      }

  -- ---- turns that show nothing

  no_front : (xs ys : List Event) → xs ++ ys ≡ [] → xs ≡ []
  no_front [] ys e = refl
  no_front (x ∷ xs) ys e = absurd cc

  abbrev nothing_after : List Event → Shown RunEnd
  nothing_after es = record { events = es; end = None }

  -- they add nothing to a run, and do not end it
  pub still : (k m : ℕ) (s u : State) (out : List Event) → Comes t fs k s [] u → IsLive u → m ≤ k
      → run t fs m (host s) out ≡ record { events = out; end = None }
  still k m s u out r live le =
      elim (cases_lt m k) as (λ _. run t fs m (host s) out ≡ nothing_after out) [
        | inl lt ↦ (let x = partway k m s u out [] r lt in x.runs
            ∙ ap (λ (ys : List Event). nothing_after (out ++ ys))
            (no_front x.part x.others (sym x.whole)) ∙ ap nothing_after (append-nil out))
        | inr most ↦ (let same : m ≡ k + 0 = omega arith in
            ap (λ n. run t fs n (host s) out) same ∙ run_comes k 0 s u out [] r
            ∙ run_pauses u (out ++ []) live ∙ ap nothing_after (append-nil out))
      ]
