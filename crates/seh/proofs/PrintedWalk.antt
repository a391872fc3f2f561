-- The text of a run has the lines of each printed walk.
use Rattle.std.proofs.Common.{◌≡◌, ℕ, ◌+◌, Bool, List, [], ◌∷◌, ◌++◌, reverse, pos, refl, sym, ap, ◌∙◌}
use Rattle.std.proofs.lemmas.List.{append_assoc}
use Rattle.source_meaning.specs.State.{State, Value, Normal, Returned, Broke, Continued, LeftTry, Target, End, Outcome, Gives, state_of, walk_events}
use Rattle.source_meaning.specs.Meaning.{shows, ran, does, meaning}
use Rattle.source_meaning.specs.Laws.{IsPrefixOf}
use Rattle.source_machine.specs.Machine.{step, done}
use Rattle.source_machine.specs.FrameMeanings.{comes_to}
use Rattle.source_machine.proofs.StepKeeping.{keeps_meaning}
use Rattle.source_machine.proofs.WholeRuns.{shows_before}
use Rattle.source_machine.proofs.RunPrefixes.{one_run}
use Rattle.seh_io.specs.Text.{lines, at_line}
use Rattle.c_checked.specs.Program.{Program}
use Rattle.c_meaning.specs.FunctionNames.{names_of}
use Rattle.seh.specs.Words.{resolve}
use Rattle.seh.specs.PrintedWalk.{ComesToWalk, walk_lines, walked_text, PrintedWalk}
use Rattle.seh.proofs.EventLines.{lines_append}
use Rattle.seh.proofs.Headline.{headline}

-- the lines of a walk's events
walk_text : (program : Program) (trace : Bool) (functions : List ℕ)
    → lines trace (walk_events functions) (names_of program) ≡ walk_lines program functions
walk_text program trace [] = refl
walk_text program trace (f ∷ functions) =
    ap (λ xs. at_line (names_of program (f + 1)) ++ xs) (walk_text program trace functions)

-- what is shown has the events of the last state
shown_events : (o : Outcome) → (shows o).events ≡ (state_of o).events
shown_events (Gives (Value v) st) = refl
shown_events (Gives Normal st) = refl
shown_events (Gives (Returned v) st) = refl
shown_events (Gives Broke st) = refl
shown_events (Gives Continued st) = refl
shown_events (Gives LeftTry st) = refl
shown_events (Gives (Target to exc) st) = refl
shown_events (Gives (End e) st) = refl

module _ (program : Program) (arg n : ℕ) (st : State) (c : ComesToWalk program (pos arg) n st) where
  -- the call's step shows the walk
  walked : (step program c.machine).state.events
      ≡ st.events ++ walk_events (reverse st.functions)
  walked = ap (λ next. (done program c.machine next).state.events) c.calls
      ∙ ap (λ (s : State). s.events ++ walk_events (reverse s.functions)) c.state

  -- that is among what the program means
  meant : IsPrefixOf (st.events ++ walk_events (reverse st.functions))
      (meaning program (pos arg) n).events
  meant =
      let comes : comes_to program (does program) (step program c.machine)
      ≡ ran program (pos arg) n = keeps_meaning program c.machine
      ∙ ap (comes_to program (does program)) (sym c.comes)
      ∙ one_run program (pos arg) n c.steps in
      let front = shows_before program (step program c.machine) in (
        front.0,
        ap (λ es. es ++ front.0) (sym walked) ∙ front.1
            ∙ ap (λ (o : Outcome). (state_of o).events) comes
            ∙ sym (shown_events (ran program (pos arg) n)),
      )

  -- and so are its lines
  meant_lines : (trace : Bool)
      → (rest : List ℕ) × (lines trace (meaning program (pos arg) n).events (names_of program)
      ≡ walked_text program st trace ++ rest)
  meant_lines trace =
      let names = names_of program in
      let fs = reverse st.functions in
      let before = lines trace st.events names in
      let rest = lines trace meant.0 names in (
        rest,
        ap (λ es. lines trace es names) (sym meant.1)
            ∙ lines_append trace (st.events ++ walk_events fs) meant.0 names
            ∙ ap (λ xs. xs ++ rest) (lines_append trace st.events (walk_events fs) names
            ∙ ap (λ xs. before ++ xs) (walk_text program trace fs)),
      )

pub printed_walk : PrintedWalk
printed_walk source image compiled options arg n st low enough c =
    let program = (resolve source compiled.whole).program in
    let text = (headline source image compiled options arg n low enough).begins in
    let walk = meant_lines program arg n st c options.trace in (
      walk.0 ++ text.0,
      text.1 ∙ ap (λ xs. xs ++ text.0) walk.1
          ∙ append_assoc (walked_text program st options.trace) walk.0 text.0,
    )
