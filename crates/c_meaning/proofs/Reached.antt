-- Where a run has come, and what it has shown.
use Rattle.std.proofs.Common.{◌≡◌, ℕ, zero, suc, ◌+◌, ◌<◌, ◌≤◌, List, [], ◌++◌, refl, sym, ap}
use Rattle.std.proofs.Common.{◌∙◌, subst, arith}
use Rattle.std.specs.Prelude.{true, false, Option, Some, None, MatchOption, OnErr, Result as Result', Ok}
use Rattle.std.specs.Prelude.{Err}
use Rattle.std.proofs.lemmas.List.{append-nil}
use Rattle.seh_num.specs.declared.event.Event.{Event}
use Rattle.c_checked.specs.Program.{Program}
use Rattle.source_meaning.specs.State.{Outcome, state_of}
use Rattle.source_meaning.specs.Meaning.{does}
use Rattle.source_meaning.specs.Laws.{IsPrefixOf}
use Rattle.source_machine.specs.Frames.{Next, Over}
use Rattle.source_machine.specs.Machine.{Machine, step, done}
use Rattle.source_machine.specs.FrameMeanings.{comes_to}
use Rattle.source_machine.specs.Runs.{after}
use Rattle.source_machine.specs.StepLaws.{is_over, distance}
use Rattle.source_machine.proofs.StepDistance.{decreases}
use Rattle.source_machine.proofs.WholeRuns.{shows_before, all_keep}
use Rattle.source_values.proofs.Steps.{after_sum, after_more}
use Rattle.source_steps.specs.declared.machine.Interpreter.{Interpreter}
use Rattle.source_steps.specs.Machines.{machine_of}
use Rattle.seh_io.specs.Streams.{Faults}
use Rattle.seh_io.specs.Writer.{TookEvents}
use Rattle.seh_io.specs.declared.receiver.Lines.{Lines}
use Rattle.c_meaning.specs.declared.run.RunErr.{RunErr}
use Rattle.c_meaning.specs.declared.run.RunErr.TheVariants.{Write, Memory}
use Rattle.c_meaning.specs.Runs.{Turned, ShownPart, Stopped, HasStopped, HasFailed}

-- a fact holds where there is an error
pub on_err : {A E P : Type 0} (r : Result' A E) → P → OnErr r P
on_err (Ok x) p = tt
on_err (Err e) p = p

-- a run that isn't over
pub not_over : {T P : Type 0} (Q : T → Type 0) (o : Option T) → MatchOption o P Q
    → ((x : T) → o ≡ Some x → ⊥) → P
not_over Q None m n = m
not_over Q (Some x) m n = absurd (n x refl)

-- a step brings no machine farther from its end, and neither do many
step_no_farther : (program : Program) (m : Machine) (next : Next) → m.next ≡ next
    → distance (step program m) ≤ distance m
step_no_farther program m (Over how) at =
    let same : step program m ≡ record m { next = Over how } = ap (done program m) at in
    let back : record m { next = Over how } ≡ m = ap (λ next. record m { next = next }) (sym at) in
    let e : distance (step program m) ≡ distance m = ap distance (same ∙ back) in
    omega (arith, e)
step_no_farther program m next at =
    let going : is_over m.next ≡ false = ap is_over at in
    let less : distance (step program m) < distance m = decreases program m going in
    omega (arith, less)

no_farther : (program : Program) (k : ℕ) (m : Machine)
    → distance (after program k m) ≤ distance m
no_farther program zero m = omega arith
no_farther program (suc k) m =
    let one : distance (step program m) ≤ distance m = step_no_farther program m m.next refl in
    let rest : distance (after program k (step program m)) ≤ distance (step program m) =
    no_farther program k (step program m) in
    omega (arith, one, rest)

module _ {X : Type 0} (took : X → List Event → X → Type 0) (program : Program) where
  abbrev comes : Machine → Outcome
  comes m = comes_to program (does program) m

  -- from a machine the run has come to another, and the receiver took what was shown
  pub record Reached (from : Machine) (x : X) (m : Interpreter) (next : Next) (y : X) : Type 0 where
    pub shown : List Event
    pub took_shown : took x shown y
    pub steps : ℕ
    pub is : machine_of m next shown ≡ after program steps from
    pub comes_same : comes (machine_of m next shown) ≡ comes from

  pub at_first : (m : Interpreter) (next : Next) (x : X) → took x [] x
      → Reached (machine_of m next []) x m next x
  at_first m next x none =
      record { shown = []; took_shown = none; steps = 0; is = refl; comes_same = refl }

  pub one_more : ((x y z : X) (es fs : List Event) → took x es y → took y fs z
      → took x (es ++ fs) z)
      → (from : Machine) (x : X) (m : Interpreter) (next : Next) (y : X) (m' : Interpreter)
      (next' : Next)
      (y' : X)
      → Reached from x m next y → Turned took program m next y m' next' y'
      → Reached from x m' next' y'
  one_more more from x m next y m' next' y' r t =
      let led = t.stepped r.shown in
      record {
        shown = r.shown ++ t.shown;
        took_shown = more x y y' r.shown t.shown r.took_shown t.took_shown;
        steps = r.steps + suc led.before;
        is =
            sym led.is ∙ ap (after program (suc led.before)) r.is
            ∙ sym (after_sum program r.steps (suc led.before) from);
        comes_same =
            ap comes (sym led.is)
            ∙ all_keep program (suc led.before) (machine_of m next r.shown) ∙ r.comes_same;
      }

  pub nearer : (m : Interpreter) (next : Next) (y : X) (m' : Interpreter) (next' : Next) (y' : X)
      → is_over next ≡ false → Turned took program m next y m' next' y'
      → distance (machine_of m' next' []) < distance (machine_of m next [])
  nearer m next y m' next' y' going t =
      let led = t.stepped [] in
      let from = machine_of m next [] in
      let first : distance (step program from) < distance from = decreases program from going in
      let rest : distance (after program (suc led.before) from) ≤ distance (step program from) =
      no_farther program led.before (step program from) in
      let same : distance (after program (suc led.before) from)
      ≡ distance (machine_of m' next' []) = ap distance led.is in
      omega (arith, first, rest, same)

  -- what was taken is the front of what is shown
  pub so_far : (from : Machine) (x : X) (m : Interpreter) (next : Next) (y : X)
      → Reached from x m next y → ShownPart took program from x y
  so_far from x m next y r = record {
    shown = r.shown;
    took_shown = r.took_shown;
    front =
        subst (λ o. IsPrefixOf r.shown (state_of o).events) r.comes_same
        (shows_before program (machine_of m next r.shown));
  }

  pub at_most : ((x y z : X) (es fs : List Event) → took x es y → took y fs z → took x (es ++ fs) z)
      → (from : Machine) (x : X) (m : Interpreter) (next : Next) (y y' : X)
      → Reached from x m next y
      → took y [] y' → ShownPart took program from x y'
  at_most more from x m next y y' r none = record {
    shown = r.shown ++ [];
    took_shown = more x y y' r.shown [] r.took_shown none;
    front =
        subst (λ o. IsPrefixOf (r.shown ++ []) (state_of o).events) r.comes_same
        (with_nil (shows_before program (machine_of m next r.shown)));
  }
    where
      with_nil : IsPrefixOf r.shown (state_of (comes (machine_of m next r.shown))).events
          → IsPrefixOf (r.shown ++ []) (state_of (comes (machine_of m next r.shown))).events
      with_nil p =
          subst (λ es. IsPrefixOf es (state_of (comes (machine_of m next r.shown))).events)
          (sym (append-nil r.shown)) p

-- a step whose line failed, after steps whose lines were written
pub stops : {X N : Type 0} (taken : X → Option (List ℕ)) (faults : X → Faults)
    (named : N → ℕ → Option (List ℕ)) (program : Program) (from : Machine) (x : Lines X N)
    (m : Interpreter) (next : Next) (y : Lines X N) (m' : Interpreter) (next' : Next)
    (y' : Lines X N)
    → Reached (TookEvents taken faults named) program from x m next y
    → Turned (TookEvents taken faults named) program m next y m' next' y'
    → y.failed ≡ false → y'.failed ≡ true → Stopped taken faults named program from x m' y'
stops taken faults named program from x m next y m' next' y' r t is was =
    let led = t.stepped r.shown in
    let sum = after_sum program r.steps led.before from in
    let there : after program (r.steps + led.before) from
    ≡ after program led.before (machine_of m next r.shown) =
    sum ∙ ap (after program led.before) (sym r.is) in
    let events : r.shown ≡ (after program (r.steps + led.before) from).state.events =
    sym (ap (λ (k : Machine). k.state.events) there ∙ led.silent) in
    record {
      steps = r.steps + led.before;
      before = y;
      took_before = subst (λ es. TookEvents taken faults named x es y) events r.took_shown;
      written = is;
      next = next';
      shown = t.shown;
      took_last = t.took_shown;
      failed = was;
      last =
          sym (after_more program (r.steps + led.before) from) ∙ ap (step program) there
          ∙ after_more program led.before (machine_of m next r.shown)
          ∙ led.is ∙ ap (λ es. machine_of m' next' (es ++ t.shown)) events;
    }

-- a line has failed where the run was stopped by one
pub has_failed : {X N : Type 0} (taken : X → Option (List ℕ)) (faults : X → Faults)
    (named : N → ℕ → Option (List ℕ)) (program : Program) (from : Machine) (x : Lines X N)
    (m' : Interpreter) (x' : Lines X N) (e : RunErr)
    → HasStopped e taken faults named program from x m' x' → HasFailed e x'.failed
has_failed taken faults named program from x m' x' Write h = h.failed
has_failed taken faults named program from x m' x' Memory h = h
