-- The state that the code's machine and memory are.
use Rattle.flat_memory.specs.Memory.{Memory}
use Rattle.x64_machine.specs.Effect.{State, state, with_vectored}
use Rattle.seh_dispatch.specs.declared.machine.HostedProcessor.{HostedProcessor}

abbrev pub state_of : HostedProcessor → Memory → State
state_of x m = with_vectored x.handlers (state x.cpu m)
