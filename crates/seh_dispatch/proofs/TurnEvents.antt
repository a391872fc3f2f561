-- Events before those of a turn.
use Rattle.std.proofs.Common.{◌≡◌, Some, None, [], ◌∷◌, refl, ap, ◌∙◌}
use Rattle.seh_dispatch.specs.Words.{Event, Memory, HostedProcessor, Functions, Turn, Continues, Ends, with_event, Made, TurnMade, Told, led, turn_of, led_turn, made_turn, turn_made, silent, all_silent, all_told}
use Rattle.seh_dispatch.specs.declared.outcome.TurnOutcome as code
use Rattle.seh_dispatch.specs.declared.outcome.Led.{Led}

led_none : (t : Turn) → led [] t ≡ t
led_none (Continues s es) = refl
led_none (Ends es end) = refl

led_one : (e : Event) (t : Turn) → led (e ∷ []) t ≡ with_event e t
led_one e (Continues s es) = refl
led_one e (Ends es end) = refl

pub led_silent : (h : HostedProcessor) (m : Memory) (x : Led) (o : code.TurnOutcome) (t : Turn)
    → x ≡ silent o → turn_of h m o ≡ t → led_turn h m x ≡ t
led_silent h m x o t e f = ap (led_turn h m) e ∙ led_none (turn_of h m o) ∙ f

pub led_told : (h : HostedProcessor) (m : Memory) (o : code.TurnOutcome) (e : Event) (t : Turn)
    → turn_of h m o ≡ t → led_turn h m (record { first = Some e; outcome = o }) ≡ with_event e t
led_told h m o e t f = led_one e (turn_of h m o) ∙ ap (with_event e) f

pub made_silent : (h : HostedProcessor) (m : Memory) (x : Made) (o : code.TurnOutcome) (t : Turn)
    → x ≡ all_silent o → turn_of h m o ≡ t → made_turn h m x ≡ t
made_silent h m x o t e f = ap (made_turn h m) e ∙ led_none (led_turn h m (silent o))
    ∙ led_none (turn_of h m o) ∙ f

pub made_later : (h : HostedProcessor) (m : Memory) (x : Led) (t : Turn) → led_turn h m x ≡ t
    → made_turn h m (record { first = None; rest = x }) ≡ t
made_later h m x t f = led_none (led_turn h m x) ∙ f

pub made_told : (h : HostedProcessor) (m : Memory) (x : Led) (e : Event) (t : Turn)
    → led_turn h m x ≡ t
    → made_turn h m (record { first = Some e; rest = x }) ≡ with_event e t
made_told h m x e t f = led_one e (led_turn h m x) ∙ ap (with_event e) f

pub all_told_turn : (t : Functions) (h : HostedProcessor) (m : Memory) (x : TurnMade)
    (o : code.TurnOutcome)
    (u : Turn) → x ≡ all_told o → turn_of h m o ≡ u → turn_made t h m x ≡ u
all_told_turn t h m x o u e f = ap (turn_made t h m) e
    ∙ made_silent h m (all_silent o) o u refl f

pub told_later : (t : Functions) (h : HostedProcessor) (m : Memory) (x : Led) (u : Turn)
    → led_turn h m x ≡ u → turn_made t h m (Told (record { first = None; rest = x })) ≡ u
told_later t h m x u f = made_later h m x u f

pub ruleset leading =
    (led_silent, led_told, made_silent, made_later, made_told, all_told_turn, told_later)
