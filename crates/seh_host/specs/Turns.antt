-- What the code's turns answer.
use Rattle.std.specs.Prelude.{ℕ, Option, Some, None}
use Rattle.seh_num.specs.declared.end.RunEnd.{RunEnd}
use Rattle.seh_num.specs.declared.end.RunEnd.TheVariants.{OutOfTurns}
use Rattle.host_model.specs.HostStep.{Host, Live, Ended}
use Rattle.seh_host.specs.declared.host.Turn as code
use Rattle.seh_host.specs.declared.host.Turn.TheVariants as turns
use Rattle.seh_host.specs.declared.run.RunErr.{RunErr}
use Rattle.seh_host.specs.declared.run.RunErr.TheVariants.{Write}

abbrev pub answer_of : Host → code.Turn
answer_of (Live s) = turns.Made
answer_of (Ended e) = turns.Ended

-- a run that hasn't ended within so many turns is out of them
abbrev pub end_within : ℕ → Option RunEnd → RunEnd
end_within turns None = OutOfTurns turns
end_within turns (Some e) = e

-- how many bytes were taken before a write failed
abbrev pub taken_before : RunErr → ℕ
taken_before (Write n) = n
