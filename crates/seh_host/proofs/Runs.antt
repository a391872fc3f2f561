-- Runs, turn by turn.
use Rattle.std.proofs.Common.{◌≡◌, ℕ, Option, Some, None, refl}
use Rattle.std.specs.Option.{unwrap_or}
use Rattle.seh_host.specs.Words.{RunEnd, end_of, Memory, end_within}
use Rattle.seh_num.specs.declared.end.RunEnd.TheVariants.{OutOfTurns}
use Rattle.seh_dispatch.specs.TurnEnds.{left}
use Rattle.seh_dispatch.specs.declared.machine.HostedProcessor.{HostedProcessor}

-- ---- what a turn leaves of a host that has ended

pub within : (turns : ℕ) (e : Option RunEnd) → unwrap_or e (OutOfTurns turns) ≡ end_within turns e
within turns None = refl
within turns (Some x) = refl

-- the end that a host keeps
pub end_left : (h : HostedProcessor) (m : Memory) (e : Option RunEnd) → e ≡ end_of (left h m e)
end_left h m None = refl
end_left h m (Some x) = refl
