-- A printed walk, step by step.
use Rattle.std.proofs.Common.{◌≡◌, ℕ, zero, suc, ◌+◌, List, [], ◌++◌, map, Option, Some, None, Result, Ok, Err, refl, sym, ap, subst, ◌∙◌, append-nil, append_assoc, arith}
use Rattle.std.specs.Prelude.{option_map}
use Rattle.std.specs.List.{filter_map, cons_option}
use Rattle.seh_num.specs.declared.event.Event.TheVariants as events
use Rattle.seh_walk.specs.declared.stop_cause.StopCause.{StopCause}
use Rattle.seh_walk.specs.declared.walk.WalkState.{WalkState}
use Rattle.seh_walk.specs.Walk.{Visited, Over, Past, Frame, Broken, visited}
use Rattle.seh_walk.specs.Controls.{controls, controls_from, number_at}
use Rattle.seh_dispatch.specs.Words.{Event, Memory, Functions, Printed, printed, printed_of, listed, followed, shown_at}

abbrev pub no_more : Option StopCause → Printed
no_more stop = record { events = []; stop = stop }

-- these events, and then what others show
abbrev after_events : List Event → Printed → Printed
after_events es x = record { events = es ++ x.events; stop = x.stop }

-- what is printed after a step
abbrev pub rest_of : ℕ → Functions → Memory → Result WalkState (Option StopCause) → Printed
rest_of n t m (Ok u) = printed n t m u
rest_of n t m (Err stop) = no_more stop

shown_first : (o : Option ℕ) (ns : List ℕ)
    → map events.At (cons_option o ns) ≡ listed (option_map events.At o) ++ map events.At ns
shown_first None ns = refl
shown_first (Some n) ns = refl

-- what is printed, by what a walk finds
abbrev found : ℕ → Functions → Memory → WalkState → Visited → Printed
found n t m w x = printed_of t (controls_from (controls n t m) w x)

one_step : (n k : ℕ) (t : Functions) (m : Memory) (w : WalkState) (x : Visited) → n ≡ k + 1
    → x ≡ visited t m w → found k t m w x ≡ printed n t m w
unfolding controls
one_step zero k t m w x e f = absurd (omega arith)
one_step (suc n) k t m w x e f = let h : k ≡ n = omega arith in
    ap (λ j. found j t m w x) h ∙ ap (found n t m w) f

found_step : (k : ℕ) (t : Functions) (m : Memory) (w : WalkState) (x : Visited)
    → after_events (shown_at t w x) (rest_of k t m (followed x)) ≡ found k t m w x
found_step k t m w Over = refl
found_step k t m w (Past u) = refl
found_step k t m w (Broken y) = refl
found_step k t m w (Frame c u) = let ns = filter_map (number_at t) (controls k t m u).addresses in
    ap (λ es. record { events = es; stop = (controls k t m u).stop })
    (sym (shown_first (number_at t w.context.rip) ns))

pub printed_step : (n k : ℕ) (t : Functions) (m : Memory) (w : WalkState)
    (r : Result WalkState (Option StopCause)) → n ≡ k + 1 → r ≡ followed (visited t m w)
    → after_events (shown_at t w (visited t m w)) (rest_of k t m r) ≡ printed n t m w
printed_step n k t m w r e f =
    ap (λ q. after_events (shown_at t w (visited t m w)) (rest_of k t m q)) f
    ∙ found_step k t m w (visited t m w) ∙ one_step n k t m w (visited t m w) e refl

pub printed-none : (n : ℕ) (t : Functions) (m : Memory) (w : WalkState) → n ≡ 0
    → no_more None ≡ printed n t m w
unfolding controls
printed-none zero t m w e = refl
printed-none (suc n) t m w e = absurd (omega arith)

-- ---- a receiver that has taken a part of what is shown

-- of the whole a receiver took the front, and the rest is still to come
pub record Shows {X : Type 0} (took : X → List Event → X → Type 0) (old : X) (whole : Printed)
    (new : X) (rest : Printed) : Type 0 where
  pub front : List Event
  pub given : took old front new
  pub events : whole.events ≡ front ++ rest.events
  pub stop : whole.stop ≡ rest.stop

module _ {X : Type 0} (took : X → List Event → X → Type 0) where
  pub shows_none : (none : (x : X) → took x [] x) (x : X) (whole : Printed)
      → Shows took x whole x whole
  shows_none none x whole = record { front = []; given = none x; events = refl; stop = refl }

  module _ (old new : X) (whole rest : Printed) (h : Shows took old whole new rest) where
    pub shows_same : (rest' : Printed) → rest' ≡ rest → Shows took old whole new rest'
    shows_same rest' e = subst (Shows took old whole new) (sym e) h

    pub shows_more : (more : (x y z : X) (es fs : List Event) → took x es y → took y fs z
        → took x (es ++ fs) z) (es : List Event) (last : X) (rest' : Printed)
        → took new es last → after_events es rest' ≡ rest → Shows took old whole last rest'
    shows_more more es last rest' given e = record {
      front = h.front ++ es;
      given = more old new last h.front es h.given given;
      events = h.events ∙ ap (λ x. h.front ++ x.events) (sym e)
          ∙ sym (append_assoc h.front es rest'.events);
      stop = h.stop ∙ ap (λ x. x.stop) (sym e);
    }

    pub shows_all : (stop : Option StopCause) → no_more stop ≡ rest → took old whole.events new
    shows_all stop e = subst (λ es. took old es new)
        (sym (h.events ∙ ap (λ x. h.front ++ x.events) (sym e) ∙ append-nil h.front)) h.given

    pub stop_is : (stop : Option StopCause) → no_more stop ≡ rest → stop ≡ whole.stop
    stop_is stop e = ap (λ x. x.stop) e ∙ sym h.stop

  -- a step of a printed walk of which the front was shown
  pub shows_step : (more : (x y z : X) (es fs : List Event) → took x es y → took y fs z
      → took x (es ++ fs) z) (old new last : X) (whole : Printed) (n k : ℕ) (t : Functions)
      (m : Memory) (w : WalkState) (r : Result WalkState (Option StopCause))
      → Shows took old whole new (printed n t m w) → n ≡ k + 1 → r ≡ followed (visited t m w)
      → took new (shown_at t w (visited t m w)) last
      → Shows took old whole last (rest_of k t m r)
  shows_step more old new last whole n k t m w r h e f given =
      shows_more old new whole (printed n t m w) h more (shown_at t w (visited t m w)) last
      (rest_of k t m r) given (printed_step n k t m w r e f)
