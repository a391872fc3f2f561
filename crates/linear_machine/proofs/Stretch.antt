-- Stretches of a run with their price, and what is claimed of a part of the program.
use Rattle.std.proofs.Common.{◌≡◌, ◌⊎◌, ℕ, suc, ◌+◌, ◌*◌, ◌≤◌, List, [], ◌∷◌, ◌++◌, length}
use Rattle.std.specs.Prelude.{Some, None}
use Rattle.linear_machine.specs.Words.{Event, Exception, State, Result, Value, Normal, Returned, Broke, Continued, LeftTry, End, Outcome, Gives, Context, IsPrefixOf, Region, LinearProgram, BodyName, Frame, Handler, Item, Waits, Store, Configuration, Seen, Running, Finished, Next, handlers, handlers_in, unwind, target_of, exec}
use Rattle.source_meaning.specs.State.{Target}
use Rattle.linear_machine.specs.Frames as machine
use Rattle.linear_machine.proofs.RunLengths.{events_of}

-- a place in a run, maybe within a turn, from which it continues
abbrev pub Part : Type 0
Part = Next → Seen

abbrev pub at : Configuration → Part
at c next = next c

-- a body at a place: its name, the regions around the place, what lies below it, the exception that
-- it is asked about, and what is held
pub record Site : Type 0 where
  pub body : BodyName
  pub regions : List Region
  pub below : List Item
  pub exception : Exception
  pub held : ℕ

abbrev pub frame_of : Context → Site → ℕ → List ℕ → Frame
frame_of context site pc temps = record {
  body = site.body;
  next = pc;
  activation = context.activation;
  exception = site.exception;
  held = site.held;
  temporaries = temps;
  landed = None;
}

abbrev pub conf : Context → Site → ℕ → List ℕ → State → Store → Configuration
conf context site pc temps st store = record {
  frame = frame_of context site pc temps;
  below = site.below;
  store = store;
  events = st.events;
}

-- f is the handler with so many others outside it
abbrev pub Picked : List Handler → ℕ → Handler → Type 0
Picked [] level f = ⊥
Picked (g ∷ rest) level f = ((length rest ≡ level) × (g ≡ f)) ⊎ Picked rest level f

-- where a result may lead: nowhere, to a part, or to a part with some place in it
pub data Way : Type 0 where
  Never : Way
  To : (State → Store → Part) → Way
  Out : (State → Store → ℕ → Part) → Way

-- where each result may lead, what is held there, and which stores may be there
pub record Ways : Type 1 where
  pub context : Context
  pub site : Site
  pub held : ℕ
  pub kept : State → Store → Type 0
  pub value : ℕ → Way
  pub normal : Way
  pub returned : ℕ → Way
  pub broke : Way
  pub again : Way
  pub left : Way

abbrev pub Kept : Type 1
Kept = State → Store → Type 0

-- only a target and an end may come
abbrev pub no_ways : Kept → Context → Site → Ways
no_ways kept context site = record {
  context = context;
  site = site;
  held = site.held;
  kept = kept;
  value = λ x. Never;
  normal = Never;
  returned = λ v. Never;
  broke = Never;
  again = Never;
  left = Never;
}

-- beside these only a value, or only a normal end
abbrev pub value_ways : (ℕ → State → Store → Part) → Kept → Context → Site → Ways
value_ways v kept context site = record (no_ways kept context site) { value = λ x. To (v x) }

abbrev pub normal_ways : (State → Store → Part) → Kept → Context → Site → Ways
normal_ways t kept context site = record (no_ways kept context site) { normal = To t }

abbrev pub first_ways : (State → Store → Part) → Ways → Ways
first_ways t w = record w { value = λ x. Never; normal = To t }

-- still running, with a first part of these events
abbrev pub Before : Seen → List Event → Type 0
Before seen es = (shown : List Event) × (seen ≡ Running shown) × IsPrefixOf shown es

-- turns beside 16 for each step; steps that are gone already; steps that need no turn where it
-- arrives, and where it leaves
pub record Price : Type 0 where
  pub turns : ℕ
  pub extra : ℕ
  pub slack : ℕ
  pub out : ℕ

abbrev pub price : ℕ → ℕ → ℕ → ℕ → Price
price turns extra slack out = record { turns = turns; extra = extra; slack = slack; out = out }

-- two stretches make one: where both arrive, where the first leaves, and where the second does
pub record Join (p q r : Price) : Type 0 where
  pub turns : p.turns + q.turns ≤ r.turns
  pub slack : r.extra + p.slack + q.slack ≤ p.extra + q.extra + r.slack
  pub first_out : r.extra + p.out ≤ p.extra + r.out
  pub second_out : r.extra + p.slack + q.out ≤ p.extra + q.extra + r.out

pub joins : {p q r : Price} → p.turns + q.turns ≤ r.turns
    → r.extra + p.slack + q.slack ≤ p.extra + q.extra + r.slack
    → r.extra + p.out ≤ p.extra + r.out → r.extra + p.slack + q.out ≤ p.extra + q.extra + r.out
    → Join p q r
joins a b c d = record { turns = a; slack = b; first_out = c; second_out = d }

-- a price that allows more
abbrev pub Dearer : Price → Price → Type 0
Dearer p r = (p.turns ≤ r.turns) × (r.extra + p.slack ≤ p.extra + r.slack)
    × (r.extra + p.out ≤ p.extra + r.out)

module _ (linear : LinearProgram) (rate : ℕ) where
  -- the handlers that a search comes to from there
  abbrev pub found : Context → Site → List Handler
  found context site = handlers_in site.regions context.activation (length site.below)
      ++ handlers linear site.below None

  -- from s, at state st, the machine comes to t, at state st': at most 16 turns for each step, and
  -- at most so many steps for each turn
  pub record Reaches (s t : Part) (st st' : State) (turns extra slack : ℕ) : Type 0 where
    pub cost : ℕ
    pub credit : ℕ
    pub paid : credit ≡ rate * cost
    pub most : cost + 16 * st'.steps_left ≤ 16 * st.steps_left + turns
    pub least : st.steps_left + extra ≤ credit + st'.steps_left + slack
    pub low : st'.steps_left ≤ st.steps_left
    pub grows : IsPrefixOf st.events st'.events
    pub prior : (i : ℕ) → suc i ≡ cost → Before (s (exec linear i)) st'.events
    pub by : (k : ℕ) → (j : ℕ) × (j ≡ cost + k) × (s (exec linear j) ≡ t (exec linear k))

  pub record Finishes (s : Part) (st st' : State) (turns : ℕ) (seen : Seen) : Type 0 where
    pub by : (j : ℕ) × (j + 16 * st'.steps_left ≤ 16 * st.steps_left + turns)
        × (s (exec linear j) ≡ seen)

  -- no step is left: so many turns were made, and one less had not shown more
  pub record Stops (s : Part) (st st' : State) (turns extra out : ℕ) : Type 0 where
    pub cost : ℕ
    pub credit : ℕ
    pub paid : credit ≡ rate * cost
    pub most : cost ≤ 16 * st.steps_left + turns
    pub least : st.steps_left + extra ≤ credit + out
    pub grows : IsPrefixOf st.events st'.events
    pub prior : (i : ℕ) → suc i ≡ cost → Before (s (exec linear i)) st'.events
    pub shown : IsPrefixOf st'.events (events_of (s (exec linear cost)))

  -- an unwinding with the regions of this place left
  abbrev pub unwound : Context → Site → machine.Target → List ℕ → State → Store → ℕ → Part
  unwound context site target temps st store pc next = unwind linear next target
      (Waits (frame_of context site pc temps) ∷ site.below) (Some site.regions) st.events store

  -- it comes to a part with some store that may be there, and as much is held as before
  pub record Arrival (s : Part) (st : State) (turns extra slack : ℕ) (kept : Kept) (held : ℕ)
      (st' : State) (t : Store → Part) : Type 0 where
    pub store : Store
    pub fits : kept st' store
    pub same : st'.held ≡ held
    pub reaches : Reaches s (t store) st st' turns extra slack

  abbrev pub Arrives : Part → State → Price → Kept → ℕ → State → Way → Type 0
  Arrives s st p kept held st' Never = ⊥
  Arrives s st p kept held st' (To t) = Arrival s st p.turns p.extra p.slack kept held st' (t st')
  Arrives s st p kept held st' (Out t) = (pc : ℕ)
      × Arrival s st p.turns p.extra p.slack kept held st' (λ store. t st' store pc)

  -- an unwinding is on its way to the handler of this level
  pub record Targets (s : Part) (st : State) (p : Price) (kept : Kept) (context : Context)
      (site : Site) (level : ℕ) (exc : Exception) (st' : State) : Type 0 where
    pub handler : Handler
    pub picked : Picked (found context site) level handler
    pub temps : List ℕ
    pub pc : ℕ
    pub store : Store
    pub fits : kept st' store
    pub reaches : Reaches s (unwound context site (target_of handler exc.code st'.held) temps st'
        store pc) st st' p.turns p.extra p.out

  abbrev pub Attains : Part → State → Price → Ways → State → Result → Type 0
  Attains s st p w st' (Value x) = Arrives s st p w.kept w.held st' (w.value x)
  Attains s st p w st' Normal = Arrives s st p w.kept w.held st' w.normal
  Attains s st p w st' (Returned v) = Arrives s st p w.kept w.held st' (w.returned v)
  Attains s st p w st' Broke = Arrives s st p w.kept w.held st' w.broke
  Attains s st p w st' Continued = Arrives s st p w.kept w.held st' w.again
  Attains s st p w st' LeftTry = Arrives s st p w.kept w.held st' w.left
  Attains s st p w st' (Target level exc) = Targets s st p w.kept w.context w.site level exc st'
  Attains s st p w st' (End (Some e)) = Finishes s st st' p.turns (Finished e st'.events)
  Attains s st p w st' (End None) = Stops s st st' p.turns p.extra p.out

  abbrev pub Claim : Part → State → Price → Ways → Outcome → Type 0
  Claim s st p w (Gives r st') = Attains s st p w st' r
