use Rattle.std.proofs.Common.{◌≡◌, false, []}
use Rattle.seh_io.specs.Writer.{TookEvents}
use Rattle.c_checked.specs.Whole as whole
use Rattle.source_machine.specs.StepLaws.{distance}
use Rattle.source_plans.specs.Views.{next_of}
use Rattle.source_steps.specs.Machines.{machine_of}
use Rattle.c_meaning.proofs.Reached.{Reached}
use Rattle.c_meaning.proofs.run.run.Given as goal

abbrev pub invariant-loop-how : goal.invariant-loop-how
invariant-loop-how g l =
    Reached (TookEvents g.O.Sink.taken g.O.Sink.faults g.N.Names.named) (whole.program l.program)
    (machine_of l.initial.machine (next_of l.initial.next) []) l.initial.lines l.machine
    (next_of l.next) l.lines
    × (l.lines.failed ≡ false)

abbrev pub decreases-loop-how : goal.decreases-loop-how
decreases-loop-how g l = distance (machine_of l.machine (next_of l.next) [])
