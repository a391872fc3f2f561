-- What a run has written when it ends, or when a line couldn't be written.
use Rattle.std.specs.Prelude.{◌≡◌, ℕ, ◌+◌, ◌≤◌, Bool, false, List, ◌++◌, Option}
use Rattle.seh_io.specs.Streams.{Grew}
use Rattle.seh_io.specs.Text.{lines, end_line, text}
use Rattle.seh_io.specs.Writer.{Writer, Wrote, TookPart}
use Rattle.host_model.specs.HostStep.{end_of}
use Rattle.seh_host.specs.Running.{Running, made, shown_made, run_of, run_names}
use Rattle.seh_host.specs.Turns.{end_within}

-- the text of a run of at most so many turns
abbrev pub run_text : ℕ → Bool → Running → List ℕ
run_text turns trace r =
    text (run_of turns r).events (end_within turns (run_of turns r).end) trace
    (run_names r)

-- a line couldn't be written: no turn was made after the one that shows it, so that the lines of
-- all turns but the last were taken whole
pub record Stopped (turns : ℕ) (trace : Bool) (r : Running) (taken : Option (List ℕ)) (r' : Running)
    (taken' : Option (List ℕ)) : Type 0 where
  pub turns_made : ℕ
  pub within : turns_made ≤ turns
  pub host : r' ≡ made turns_made r
  pub whole : ℕ
  pub last : turns_made ≤ whole + 1
  pub before : (more : List ℕ)
      × Grew taken (lines trace (shown_made whole r) (run_names r) ++ more) taken'

-- and nothing was taken but lines of the turns that were made, and after all of these the line of
-- the end that they leave
pub record StoppedText (turns : ℕ) (trace : Bool) (r : Running) (taken : Option (List ℕ))
    (r' : Running) (taken' : Option (List ℕ)) : Type 0 where
  pub stopped : Stopped turns trace r taken r' taken'
  pub count : ℕ
  pub front : TookPart taken
      (lines trace (shown_made stopped.turns_made r) (run_names r)
      ++ end_line (end_within turns (end_of r'.host)))
      taken' count

-- at most so many turns, whose lines a writer was given: all are made where each line could be
-- written
pub record Written (turns : ℕ) (trace : Bool) (r : Running) (old : Writer) (r' : Running)
    (new : Writer) : Type 0 where
  pub stopped : Stopped turns trace r old.taken r' new.taken
  pub made_lines : Wrote old (lines trace (shown_made stopped.turns_made r) (run_names r)) new
  pub all : new.failed ≡ false → r' ≡ made turns r
  pub wrote : Wrote old (lines trace (shown_made turns r) (run_names r)) new
