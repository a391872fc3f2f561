-- How a run of the machine ends where linear code has ended.
use Rattle.std.specs.Prelude.{◌≡◌, true, Option, Some, None, ⊤}
use Rattle.seh_num.specs.declared.end.RunEnd.{RunEnd}
use Rattle.seh_num.specs.declared.end.RunEnd.TheVariants as ends
use Rattle.source_meaning.specs.declared.ended.Ended.{Ended}
use Rattle.source_meaning.specs.declared.ended.Ended.TheVariants as source
use Rattle.source_meaning.specs.Meaning.{is_calm}
use Rattle.linear_machine.specs.Frames.{Seen, Running, Finished, Stuck}
use Rattle.linear_machine.specs.Run.{shown}

-- a return of `main` and an exception that nobody handles are ends of both
abbrev pub run_end : Ended → Option RunEnd
run_end (source.Exit v) = Some (ends.Exit v)
run_end (source.Unhandled code) = Some (ends.Unhandled code)
run_end e = None

-- the end of a run, if the program has ended
abbrev pub run_end_of : Option Ended → Option RunEnd
run_end_of None = None
run_end_of (Some e) = run_end e

-- linear code isn't stuck
abbrev pub HasRule : Seen → Type 0
HasRule (Running es) = ⊤
HasRule (Finished e es) = ⊤
HasRule (Stuck es) = ⊥

-- nor has it touched a reserved byte, or been too deep
pub record IsCalm (seen : Seen) : Type 0 where
  pub rule : HasRule seen
  pub calm : is_calm (shown seen).end ≡ true
