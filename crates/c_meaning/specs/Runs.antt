-- What runs of the machine show, and how they end.
use Rattle.std.specs.Prelude.{◌≡◌, ℕ, suc, Bool, true, false, List, ◌++◌, Option, Some, None}
use Rattle.seh_num.specs.declared.width.Width.TheVariants.{W32}
use Rattle.seh_num.specs.declared.event.Event.{Event}
use Rattle.seh_num.specs.Widths.{signed}
use Rattle.seh_num.specs.Shown.{Shown}
use Rattle.seh_io.specs.Streams.{Faults}
use Rattle.seh_io.specs.Writer.{TookEvents}
use Rattle.seh_io.specs.declared.receiver.Lines.{Lines}
use Rattle.c_checked.specs.Program.{Program}
use Rattle.source_meaning.specs.declared.ended.Ended.{Ended}
use Rattle.source_meaning.specs.declared.ended.Ended.TheVariants.{Exit}
use Rattle.source_meaning.specs.State.{Result, Value, End, how_of, state_of}
use Rattle.source_meaning.specs.Meaning.{does}
use Rattle.source_meaning.specs.Laws.{IsPrefixOf}
use Rattle.source_machine.specs.Frames.{Next}
use Rattle.source_machine.specs.Machine.{Machine}
use Rattle.source_machine.specs.FrameMeanings.{comes_to}
use Rattle.source_machine.specs.Runs.{after}
use Rattle.source_steps.specs.declared.machine.Interpreter.{Interpreter}
use Rattle.source_steps.specs.Machines.{machine_of}
use Rattle.source_steps.specs.Directly.{Led}
use Rattle.c_meaning.specs.declared.run.RunErr.{RunErr}
use Rattle.c_meaning.specs.declared.run.RunErr.TheVariants.{Write, Memory}

-- some steps that show nothing were made, and one more, of which the receiver took what it shows
pub record Turned {X : Type 0} (took : X → List Event → X → Type 0) (program : Program)
    (m : Interpreter) (next : Next) (x : X) (m' : Interpreter) (next' : Next)
    (x' : X) : Type 0 where
  pub shown : List Event
  pub took_shown : took x shown x'
  pub stepped : (es : List Event) → Led program (machine_of m next es)
      (machine_of m' next' (es ++ shown))

-- the receiver took all that the machine shows, and this is what the machine comes to
pub record Ran {X : Type 0} (took : X → List Event → X → Type 0) (program : Program) (m : Machine)
    (how : Result) (x x' : X) : Type 0 where
  pub shown : List Event
  pub took_shown : took x shown x'
  pub how_is : how_of (comes_to program (does program) m) ≡ how
  pub all : (state_of (comes_to program (does program) m)).events ≡ shown

-- the receiver took the front of what the machine shows
pub record ShownPart {X : Type 0} (took : X → List Event → X → Type 0) (program : Program)
    (m : Machine) (x x' : X) : Type 0 where
  pub shown : List Event
  pub took_shown : took x shown x'
  pub front : IsPrefixOf shown (state_of (comes_to program (does program) m)).events

-- a line couldn't be written: the lines of all that so many steps show were, and no step was made
-- after the next one, which shows it
pub record Stopped {X N : Type 0} (taken : X → Option (List ℕ)) (faults : X → Faults)
    (named : N → ℕ → Option (List ℕ)) (program : Program) (m : Machine) (x : Lines X N)
    (m' : Interpreter) (x' : Lines X N) : Type 0 where
  pub steps : ℕ
  pub before : Lines X N
  pub took_before : TookEvents taken faults named x (after program steps m).state.events before
  pub written : before.failed ≡ false
  pub next : Next
  pub shown : List Event
  pub took_last : TookEvents taken faults named before shown x'
  pub failed : x'.failed ≡ true
  pub last : after program (suc steps) m
      ≡ machine_of m' next ((after program steps m).state.events ++ shown)

abbrev pub HasStopped : {X N : Type 0} → RunErr → (X → Option (List ℕ)) → (X → Faults)
    → (N → ℕ → Option (List ℕ)) → Program → Machine → Lines X N → Interpreter → Lines X N → Type 0
HasStopped Write taken faults named program m x m' x' = Stopped taken faults named program m x m' x'
HasStopped Memory taken faults named program m x m' x' = x'.failed ≡ false

-- whether a line has failed, after a run that was stopped: none has where memory was wanting
abbrev pub HasFailed : RunErr → Bool → Type 0
HasFailed Write failed = failed ≡ true
HasFailed Memory failed = failed ≡ false

-- how a program ended, by what its `main` came to
abbrev pub end_of : Result → Option Ended
end_of (Value v) = Some (Exit (signed W32 v))
end_of (End e) = e
end_of how = None

-- the receiver took all that a program shows, which ended so
pub record Means {X : Type 0} (took : X → List Event → X → Type 0) (meaning : Shown Ended)
    (end : Option Ended) (x x' : X) : Type 0 where
  pub took_events : took x meaning.events x'
  pub ended : meaning.end ≡ end

-- the receiver took the front of what a program shows
pub record MeansPart {X : Type 0} (took : X → List Event → X → Type 0) (meaning : Shown Ended)
    (x x' : X) : Type 0 where
  pub shown : List Event
  pub took_shown : took x shown x'
  pub front : IsPrefixOf shown meaning.events
