-- What is left after a turn.
use Rattle.std.specs.Prelude.{Bool, true, false, ◌==◌, Option, Some, None}
use Rattle.seh_num.specs.declared.width.Width.TheVariants.{W32}
use Rattle.seh_num.specs.Widths.{signed}
use Rattle.seh_num.specs.declared.end.RunEnd.{RunEnd}
use Rattle.seh_num.specs.declared.end.RunEnd.TheVariants.{Exit}
use Rattle.flat_memory.specs.Memory.{Memory}
use Rattle.x64_instr.specs.declared.register.Reg.TheVariants.{Rax}
use Rattle.x64_machine.specs.declared.cpu.Cpu.{Cpu}
use Rattle.x64_machine.specs.Effect.{register}
use Rattle.host_model.specs.HostStep.{Host, Live, Ended}
use Rattle.seh_dispatch.specs.Machines.{state_of}
use Rattle.seh_dispatch.specs.declared.machine.HostedProcessor.{HostedProcessor}

-- the host that is left
abbrev pub left : HostedProcessor → Memory → Option RunEnd → Host
left x m None = Live (state_of x m)
left x m (Some end) = Ended end

-- the end of a run whose RIP is 0
abbrev pub over_if : Cpu → Bool → Option RunEnd
over_if c true = Some (Exit (signed W32 (register c Rax)))
over_if c false = None

abbrev pub over_cpu : Cpu → Option RunEnd
over_cpu c = over_if c (c.rip == 0)
