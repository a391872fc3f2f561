-- What the code's outcomes mean.
use Rattle.std.specs.Prelude.{ℕ, ◌+◌, ◌%◌, ◌^◌, List, [], ◌++◌, Option, Some, None, Result, Ok, Err}
use Rattle.seh_num.specs.declared.width.Width.TheVariants.{W64}
use Rattle.flat_memory.specs.declared.access.RefusedAccess.{RefusedAccess}
use Rattle.x64_instr.specs.declared.register.Reg.TheVariants.{Rsp}
use Rattle.seh_num.specs.declared.event.Event.{Event}
use Rattle.seh_num.specs.declared.end.Reason.TheVariants as reasons
use Rattle.seh_num.specs.declared.end.RunEnd.TheVariants as ends
use Rattle.flat_memory.specs.Memory.{Memory}
use Rattle.x64_machine.specs.declared.cpu.Cpu.{Cpu}
use Rattle.x64_machine.specs.Effect.{register, with_register}
use Rattle.virtual_unwind.specs.CallerOf.{Functions}
use Rattle.seh_walk.specs.declared.stop_cause.StopCause.{StopCause}
use Rattle.seh_walk.specs.Walk.{steps}
use Rattle.host_model.specs.Turns.{Turn, Continues, Ends}
use Rattle.host_model.specs.HostStep.{printed, walked, walk_from}
use Rattle.seh_dispatch.specs.FuncletLists.{listed}
use Rattle.seh_dispatch.specs.Machines.{state_of}
use Rattle.seh_dispatch.specs.declared.machine.HostedProcessor.{HostedProcessor}
use Rattle.seh_dispatch.specs.declared.outcome.TurnOutcome as code
use Rattle.seh_dispatch.specs.declared.outcome.TurnOutcome.TheVariants as outcomes
use Rattle.seh_dispatch.specs.declared.outcome.Led.{Led}
use Rattle.seh_dispatch.specs.declared.outcome.Made.{Made}
use Rattle.seh_dispatch.specs.declared.outcome.TurnMade.{TurnMade}
use Rattle.seh_dispatch.specs.declared.outcome.TurnMade.TheVariants.{Told, Walks}

-- events before those of a turn
abbrev pub led : List Event → Turn → Turn
led es (Continues s fs) = Continues s (es ++ fs)
led es (Ends fs end) = Ends (es ++ fs) end

abbrev pub turn_of : HostedProcessor → Memory → code.TurnOutcome → Turn
turn_of x m (outcomes.Continues shown) = Continues (state_of x m) (listed shown)
turn_of x m (outcomes.Ends end) = Ends [] end

abbrev pub led_turn : HostedProcessor → Memory → Led → Turn
led_turn x m made = led (listed made.first) (turn_of x m made.outcome)

abbrev pub made_turn : HostedProcessor → Memory → Made → Turn
made_turn x m made = led (listed made.first) (led_turn x m made.rest)

-- a printed walk from the state that is left
abbrev pub turn_made : Functions → HostedProcessor → Memory → TurnMade → Turn
turn_made t x m (Told made) = made_turn x m made
turn_made t x m Walks = walked (state_of x m) (printed steps t m (walk_from x.cpu))

abbrev pub silent : code.TurnOutcome → Led
silent o = record { first = None; outcome = o }

abbrev pub all_silent : code.TurnOutcome → Made
all_silent o = record { first = None; rest = silent o }

abbrev pub all_told : code.TurnOutcome → TurnMade
all_told o = Told (all_silent o)

abbrev pub stopped_outcome : StopCause → code.TurnOutcome
stopped_outcome y = outcomes.Ends (ends.Stopped y.reason y.address)

abbrev pub bad_record : ℕ → code.TurnOutcome
bad_record at = stopped_outcome (record { reason = reasons.BadRecord; address = at })

-- the processor after a service's return
abbrev pub back_of : Cpu → Result ℕ RefusedAccess → Option Cpu
back_of c (Ok a) =
    Some (record (with_register W64 c Rsp ((register c Rsp + 8) % 2 ^ 64)) { rip = a })
back_of c (Err refused) = None
