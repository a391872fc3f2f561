-- A turn by what the code made of it.
use Rattle.std.proofs.Common.{◌≡◌, ◌++◌, Bool, true, false, eqb, Option, Some, None, List, [], refl, sym, ap, ◌∙◌}
use Rattle.seh_dispatch.specs.Words.{Event, RunEnd, Memory, Cpu, HostedProcessor, State, state_of, step, Functions, distance, Funclet, Continues, Ends, arrivals, arrived, turn, turned, over, host, Printed, walked, walked_by, Made, TurnMade, listed, led, turn_of, made_turn, turn_made, left, over_if, over_cpu}
use Rattle.seh_num.specs.declared.end.RunEnd.TheVariants.{Stopped}
use Rattle.seh_walk.specs.declared.stop_cause.StopCause.{StopCause}
use Rattle.seh_dispatch.specs.declared.outcome.TurnOutcome as code
use Rattle.seh_dispatch.specs.declared.outcome.TurnOutcome.TheVariants as outcomes

-- what is shown of a turn that continues: what was made of it, and the event of its arrival
abbrev pub all_shown : Functions → List Funclet → Cpu → Made → Option Event → List Event
all_shown t fs c made shown = (listed made.first ++ (listed made.rest.first ++ listed shown))
    ++ arrivals c (distance t.base c.rip) 1 fs

pub goes_turn : (t : Functions) (fs : List Funclet) (h : HostedProcessor) (m : Memory) (made : Made)
    (shown : Option Event) → made.rest.outcome ≡ outcomes.Continues shown
    → arrived t fs (made_turn h m made)
    ≡ Continues (state_of h m) (all_shown t fs h.cpu made shown)
goes_turn t fs h m made shown f = ap (λ (o : code.TurnOutcome). arrived t fs
    (led (listed made.first) (led (listed made.rest.first) (turn_of h m o)))) f

pub ends_turn : (t : Functions) (fs : List Funclet) (h : HostedProcessor) (m : Memory) (made : Made)
    (end : RunEnd) → made.rest.outcome ≡ outcomes.Ends end → arrived t fs (made_turn h m made)
    ≡ Ends (listed made.first ++ (listed made.rest.first ++ [])) end
ends_turn t fs h m made end f = ap (λ (o : code.TurnOutcome). arrived t fs
    (led (listed made.first) (led (listed made.rest.first) (turn_of h m o)))) f

pub left_over : (h : HostedProcessor) (m : Memory) → left h m (over_cpu h.cpu) ≡ host (state_of h m)
left_over h m = go (eqb h.cpu.rip 0)
  where
    go : (b : Bool) → left h m (over_if h.cpu b) ≡ over (state_of h m) b
    go true = refl
    go false = refl

-- the turn that was made
pub turn_is : (t : Functions) (fs : List Funclet) (s : State) (h : HostedProcessor) (m : Memory)
    (x y : TurnMade) → turn_made t h m x ≡ turned t s (step s) → x ≡ y
    → arrived t fs (turn_made t h m y) ≡ turn t fs s
unfolding turn
turn_is t fs s h m x y e f = ap (arrived t fs) (sym (ap (turn_made t h m) f) ∙ e)

-- a printed walk that is stopped, and one that comes to its end
pub walk_stops : (t : Functions) (fs : List Funclet) (h : HostedProcessor) (m : Memory)
    (x : Printed)
    (y : StopCause) → Some y ≡ x.stop
    → arrived t fs (walked (state_of h m) x) ≡ Ends x.events (Stopped y.reason y.address)
walk_stops t fs h m x y e =
    ap (λ (o : Option StopCause). arrived t fs (walked_by (state_of h m) x.events o)) (sym e)

pub walk_goes : (t : Functions) (fs : List Funclet) (h : HostedProcessor) (m : Memory) (x : Printed)
    → None ≡ x.stop → arrived t fs (walked (state_of h m) x)
    ≡ Continues (state_of h m) (x.events ++ arrivals h.cpu (distance t.base h.cpu.rip) 1 fs)
walk_goes t fs h m x e =
    ap (λ (o : Option StopCause). arrived t fs (walked_by (state_of h m) x.events o)) (sym e)
