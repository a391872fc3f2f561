-- What the machine of a program comes to is what the program means.
use Rattle.std.proofs.Common.{◌≡◌, ℕ, List, refl, sym, ap, ◌∙◌, subst}
use Rattle.std.specs.Prelude.{ℤ, Option, None, slice_get, false, []}
use Rattle.seh_num.specs.declared.event.Event.{Event}
use Rattle.c_checked.specs.Program.{Program}
use Rattle.source_meaning.specs.declared.ended.Ended.{Ended}
use Rattle.source_meaning.specs.State.{Result, Value, End, Outcome, Gives, how_of, state_of}
use Rattle.source_meaning.specs.Meaning.{does, start, outside, main_arguments, ran, shows, meaning}
use Rattle.source_meaning.specs.Laws.{IsPrefixOf}
use Rattle.source_meaning.specs.Expressions.{no_exception, enter}
use Rattle.source_machine.specs.Frames as frames
use Rattle.source_machine.specs.Machine.{Machine}
use Rattle.source_machine.specs.FrameMeanings.{comes_to}
use Rattle.source_machine.specs.Runs.{beginning}
use Rattle.seh_io.specs.Streams.{Faults}
use Rattle.seh_io.specs.Writer.{TookEvents}
use Rattle.seh_io.specs.Successive.{took_none}
use Rattle.seh_io.specs.declared.receiver.Lines.{Lines}
use Rattle.seh_num.specs.Shown.{Shown}
use Rattle.c_meaning.specs.Runs.{Ran, ShownPart, Means, MeansPart, end_of}

-- what a program does first: it calls `main`
abbrev pub first_call : Program → List ℕ → frames.Next
first_call p vs =
    frames.Call (frames.Defined p.main) vs
    (record { activation = 0; data_part = None; exception = no_exception; abnormal = false })

-- the machine with which a program begins comes to what its run comes to
begins : (p : Program) (arg : ℤ) (n : ℕ) (vs : List ℕ)
    → vs ≡ main_arguments (slice_get p.functions p.main) arg
    → comes_to p (does p) (beginning p n (first_call p vs)) ≡ ran p arg n
begins p arg n vs e =
    ap (λ vs. enter p (does p) p.main (slice_get p.functions p.main) vs outside (start p n)) e

-- and so does one that was made as it, with the arguments of `main` from a number that is the run's
pub started : (p : Program) (arg again : ℤ) (n : ℕ) (vs : List ℕ) (made : frames.Next → Machine)
    → again ≡ arg → ((next : frames.Next) → made next ≡ beginning p n next)
    → vs ≡ main_arguments (slice_get p.functions p.main) again
    → comes_to p (does p) (made (first_call p vs)) ≡ ran p arg n
started p arg again n vs made same m e =
    ap (comes_to p (does p)) (m (first_call p vs))
    ∙ begins p arg n vs (e ∙ ap (main_arguments (slice_get p.functions p.main)) same)

shows_events : (o : Outcome) → (shows o).events ≡ (state_of o).events
shows_events (Gives (Value v) st) = refl
shows_events (Gives (End e) st) = refl
shows_events (Gives how st) = refl

shows_end : (o : Outcome) → (shows o).end ≡ end_of (how_of o)
shows_end (Gives (Value v) st) = refl
shows_end (Gives (End e) st) = refl
shows_end (Gives how st) = refl

-- nothing is the front of what a program shows
pub nothing_shown : {X N : Type 0} (taken : X → Option (List ℕ)) (faults : X → Faults)
    (named : N → ℕ → Option (List ℕ)) (x : Lines X N) (meant : Shown Ended)
    → MeansPart (TookEvents taken faults named) meant x x
nothing_shown taken faults named x meant =
    record {
      shown = [];
      took_shown = took_none taken faults named x;
      front = (meant.events, refl);
    }

module _ {X : Type 0} (took : X → List Event → X → Type 0) (p : Program) (arg : ℤ) (n : ℕ)
    (m : Machine) (is : comes_to p (does p) m ≡ ran p arg n) (x y : X) where
  all_events : (meaning p arg n).events ≡ (state_of (comes_to p (does p) m)).events
  all_events = shows_events (ran p arg n) ∙ ap (λ o. (state_of o).events) (sym is)

  pub means_of : (how : Result) (end : Option Ended) → end ≡ end_of how → Ran took p m how x y
      → Means took (meaning p arg n) end x y
  means_of how end e r = record {
    took_events = subst (λ es. took x es y) (sym (all_events ∙ r.all)) r.took_shown;
    ended = shows_end (ran p arg n) ∙ ap end_of (ap how_of (sym is) ∙ r.how_is) ∙ sym e;
  }

  pub part_of : ShownPart took p m x y → MeansPart took (meaning p arg n) x y
  part_of r = record {
    shown = r.shown;
    took_shown = r.took_shown;
    front = subst (λ es. IsPrefixOf r.shown es) (sym all_events) r.front;
  }
