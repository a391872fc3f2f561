-- What holds of every run.
--
-- The main definitions: `after_turns`, `shown_in_turns`.
use Rattle.std.specs.Prelude.{◌≡◌, ℕ, zero, suc, ◌+◌, List, [], ◌++◌, ℤ, Option, Some}
use Rattle.seh_num.specs.declared.event.Event.{Event}
use Rattle.seh_num.specs.declared.end.RunEnd.{RunEnd}
use Rattle.seh_num.specs.Shown.{Shown}
use Rattle.virtual_unwind.specs.CallerOf.{Functions}
use Rattle.host_model.specs.declared.funclet.Funclet.{Funclet}
use Rattle.host_model.specs.HostStep.{Host, Ended, next, shown_next, end_of}
use Rattle.host_model.specs.Machine.{run, machine}

-- a run shows these events at least; if there is this end, it has ended so and shows nothing else
pub record Covers (events : List Event) (end : Option RunEnd) (shown : Shown RunEnd) : Type 0 where
  pub shows : (more : List Event) × (shown.events ≡ events ++ more)
  pub ends : (e : RunEnd) → end ≡ Some e → shown ≡ record { events = events; end = Some e }

-- a run shows what was shown before it
abbrev pub IsShownFirst : List Event → Shown RunEnd → Type 0
IsShownFirst out shown = (more : List Event) × (shown.events ≡ out ++ more)

-- whatever was shown before is at the front
abbrev pub RunsShowWhatWasShown : Type 0
RunsShowWhatWasShown =
    (f : Functions) (fs : List Funclet) (k : ℕ) (h : Host) (out : List Event)
    → IsShownFirst out (run f fs k h out)

-- with more turns a run shows at least as much, and an end stays with its events
abbrev pub MoreTurnsCover : Type 0
MoreTurnsCover =
    (f : Functions) (fs : List Funclet) (k j : ℕ) (h : Host) (out : List Event)
    → Covers (run f fs k h out).events (run f fs k h out).end (run f fs (k + j) h out)

-- an image shows at least as much in more turns
abbrev pub ImagesCover : Type 0
ImagesCover =
    (bytes : List ℕ) (arg : ℤ) (k j : ℕ)
    → Covers (machine bytes arg k).events (machine bytes arg k).end (machine bytes arg (k + j))

-- what covers what covers these events covers them
abbrev pub CoveringIsTransitive : Type 0
CoveringIsTransitive =
    (events : List Event) (end : Option RunEnd) (x y : Shown RunEnd) → Covers events end x
    → Covers x.events x.end y → Covers events end y

-- ---- runs as turns one after another

-- the host after so many turns
unfoldable pub after_turns : Functions → List Funclet → ℕ → Host → Host
after_turns f fs zero h = h
after_turns f fs (suc n) h = after_turns f fs n (next f fs h)

-- what so many turns show
unfoldable pub shown_in_turns : Functions → List Funclet → ℕ → Host → List Event
shown_in_turns f fs zero h = []
shown_in_turns f fs (suc n) h = shown_next f fs h ++ shown_in_turns f fs n (next f fs h)

-- a run shows what its turns show, and has the end of the host that they leave
abbrev pub RunsAreTurns : Type 0
RunsAreTurns =
    (f : Functions) (fs : List Funclet) (n : ℕ) (h : Host) (out : List Event)
    → run f fs n h out ≡ record {
      events = out ++ shown_in_turns f fs n h;
      end = end_of (after_turns f fs n h);
    }

-- a host that has ended stays so, and shows nothing
pub record Stays (f : Functions) (fs : List Funclet) (n : ℕ) (e : RunEnd) : Type 0 where
  pub host : after_turns f fs n (Ended e) ≡ Ended e
  pub shown : shown_in_turns f fs n (Ended e) ≡ []

-- of every host that has ended
abbrev pub EndsStay : Type 0
EndsStay = (f : Functions) (fs : List Funclet) (n : ℕ) (e : RunEnd) → Stays f fs n e

-- n + m turns are n turns, and then m from the host that those leave
pub record Splits (f : Functions) (fs : List Funclet) (n m : ℕ) (h : Host) : Type 0 where
  pub host : after_turns f fs (n + m) h ≡ after_turns f fs m (after_turns f fs n h)
  pub shown : shown_in_turns f fs (n + m) h
      ≡ shown_in_turns f fs n h ++ shown_in_turns f fs m (after_turns f fs n h)

-- of any numbers of turns
abbrev pub TurnsSplit : Type 0
TurnsSplit = (f : Functions) (fs : List Funclet) (n m : ℕ) (h : Host) → Splits f fs n m h
