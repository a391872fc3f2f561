-- Turns, one after another.
use Rattle.std.proofs.Common.{◌≡◌, ℕ, zero, suc, ◌+◌, List, ◌++◌, Some, refl, sym, ap, ◌∙◌, arith, append_assoc}
use Rattle.std.proofs.lemmas.List.{append-nil}
use Rattle.seh_num.specs.declared.event.Event.{Event}
use Rattle.seh_num.specs.declared.end.RunEnd.{RunEnd}
use Rattle.seh_num.specs.Shown.{Shown}
use Rattle.virtual_unwind.specs.CallerOf.{Functions}
use Rattle.host_model.specs.declared.funclet.Funclet.{Funclet}
use Rattle.host_model.specs.Turns.{shown_in}
use Rattle.host_model.specs.HostStep.{Host, Live, Ended, next, shown_next, turn, after, end_of}
use Rattle.host_model.specs.Machine.{run}
use Rattle.host_model.specs.Laws.{after_turns, shown_in_turns, RunsAreTurns, TurnsSplit, EndsStay}

-- a turn more, at the end
pub after_one_more : (f : Functions) (fs : List Funclet) (n : ℕ) (h : Host)
    → after_turns f fs (suc n) h ≡ next f fs (after_turns f fs n h)
unfolding after_turns
after_one_more f fs zero h = refl
after_one_more f fs (suc n) h = after_one_more f fs n (next f fs h)

pub shown_one_more : (f : Functions) (fs : List Funclet) (n : ℕ) (h : Host)
    → shown_in_turns f fs (suc n) h ≡ shown_in_turns f fs n h
    ++ shown_next f fs (after_turns f fs n h)
unfolding after_turns shown_in_turns
shown_one_more f fs zero h = append-nil (shown_next f fs h)
shown_one_more f fs (suc n) h =
    ap (λ t. shown_next f fs h ++ t) (shown_one_more f fs n (next f fs h))
    ∙ sym (append_assoc (shown_next f fs h) (shown_in_turns f fs n (next f fs h))
    (shown_next f fs (after_turns f fs n (next f fs h))))

-- some turns, and others after them
pub after_more : (f : Functions) (fs : List Funclet) (n m : ℕ) (h : Host)
    → after_turns f fs (n + m) h ≡ after_turns f fs m (after_turns f fs n h)
unfolding after_turns
after_more f fs zero m h = let e : 0 + m ≡ m = omega arith in ap (λ k. after_turns f fs k h) e
after_more f fs (suc n) m h =
    let e : suc n + m ≡ suc (n + m) = omega arith in
    ap (λ k. after_turns f fs k h) e ∙ after_more f fs n m (next f fs h)

pub shown_more : (f : Functions) (fs : List Funclet) (n m : ℕ) (h : Host)
    → shown_in_turns f fs (n + m) h ≡ shown_in_turns f fs n h
    ++ shown_in_turns f fs m (after_turns f fs n h)
unfolding after_turns shown_in_turns
shown_more f fs zero m h = let e : 0 + m ≡ m = omega arith in ap (λ k. shown_in_turns f fs k h) e
shown_more f fs (suc n) m h =
    let e : suc n + m ≡ suc (n + m) = omega arith in
    ap (λ k. shown_in_turns f fs k h) e
    ∙ ap (λ t. shown_next f fs h ++ t) (shown_more f fs n m (next f fs h))
    ∙ sym (append_assoc (shown_next f fs h) (shown_in_turns f fs n (next f fs h))
    (shown_in_turns f fs m (after_turns f fs n (next f fs h))))

pub turns_split : TurnsSplit
turns_split f fs n m h = record { host = after_more f fs n m h; shown = shown_more f fs n m h }

-- an end stays
pub ends_stay : EndsStay
unfolding after_turns shown_in_turns
ends_stay f fs zero e = record { host = refl; shown = refl }
ends_stay f fs (suc n) e = let rest = ends_stay f fs n e in
    record { host = rest.host; shown = rest.shown }

-- a run, by its host
run_ended : (f : Functions) (fs : List Funclet) (n : ℕ) (e : RunEnd) (out : List Event)
    → run f fs n (Ended e) out ≡ record { events = out; end = Some e }
unfolding run
run_ended f fs zero e out = refl
run_ended f fs (suc n) e out = refl

of_ended : (f : Functions) (fs : List Funclet) (n : ℕ) (e : RunEnd) (out : List Event)
    → run f fs n (Ended e) out ≡ record {
      events = out ++ shown_in_turns f fs n (Ended e);
      end = end_of (after_turns f fs n (Ended e));
    }
of_ended f fs n e out =
    let stays = ends_stay f fs n e in
    run_ended f fs n e out
    ∙ ap (λ es. let x : Shown RunEnd = record { events = es; end = Some e } in x)
    (sym (append-nil out))
    ∙ ap (λ es. let x : Shown RunEnd = record { events = out ++ es; end = Some e } in x)
    (sym stays.shown)
    ∙ ap (λ (h : Host). let x : Shown RunEnd =
    record { events = out ++ shown_in_turns f fs n (Ended e); end = end_of h } in x)
    (sym stays.host)

pub runs_are_turns : RunsAreTurns
unfolding run after_turns shown_in_turns
runs_are_turns f fs zero h out = ap (λ es. let x : Shown
    RunEnd = record { events = es; end = end_of h } in x) (sym (append-nil out))
runs_are_turns f fs (suc n) (Ended e) out = of_ended f fs (suc n) e out
runs_are_turns f fs (suc n) (Live s) out =
    let shown = shown_in (turn f fs s) in
    let rest = after (turn f fs s) in
    runs_are_turns f fs n rest (out ++ shown)
    ∙ ap (λ es. let x : Shown RunEnd = record {
      events = es;
      end = end_of (after_turns f fs n rest);
    } in x)
    (append_assoc out shown (shown_in_turns f fs n rest))
