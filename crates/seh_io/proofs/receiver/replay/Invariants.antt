use Rattle.std.proofs.Common.{take}
use Rattle.seh_io.proofs.receiver.replay.Given as goal

abbrev pub invariant-loop-event : goal.invariant-loop-event
invariant-loop-event g l = g.V.Events.took l.initial.to (take l.event-index l.events) l.to
