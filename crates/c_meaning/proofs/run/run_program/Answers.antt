use Rattle.std.proofs.Common.{[], w64, to_z, of_z}
use Rattle.std.proofs.lemmas.Int.{to_z-of_z}
use Rattle.seh_io.specs.Writer.{TookEvents}
use Rattle.c_checked.specs.Whole as whole
use Rattle.source_machine.specs.Frames as frames
use Rattle.source_steps.specs.Machines.{machine_of}
use Rattle.source_plans.specs.Views as views
use Rattle.c_meaning.proofs.Reached.{has_failed}
use Rattle.c_meaning.proofs.Meanings.{first_call, started, means_of, part_of, nothing_shown}
use Rattle.c_meaning.proofs.run.run_program.Goals as goal

pub returns-in_default-clause-part : goal.returns-in_default-clause-part
returns-in_default-clause-part g c =
    nothing_shown g.O.Sink.taken g.O.Sink.faults g.N.Names.named c.args.lines.now _

pub returns-in_default-first_machine-clause-part : goal.returns-in_default-first_machine-clause-part
returns-in_default-first_machine-clause-part g c =
    nothing_shown g.O.Sink.taken g.O.Sink.faults g.N.Names.named c.args.lines.now _

pub returns-in-Ok-run-clause-means : goal.returns-in-Ok-run-clause-means
returns-in-Ok-run-clause-means g c =
    let p = whole.program c.args.program.now in
    let made = λ (next : frames.Next). machine_of c.in-Ok-first_machine.machine next [] in
    let vs = c.in-Ok.arguments.items in
    let is = started p c.args.arg (to_z w64 (of_z w64 c.args.arg)) c.args.budget vs made
    (to_z-of_z w64 c.args.arg c.ranges.arg) c.in-Ok-first_machine.ensures c.in-Ok.ensures in
    means_of (TookEvents g.O.Sink.taken g.O.Sink.faults g.N.Names.named) p c.args.arg c.args.budget
    (made (first_call p vs)) is c.args.lines.now c.run.new.lines
    (views.finish_of c.in-Ok-run.finish) c.end_of.result c.end_of.ensures c.in-Ok-run.ensures.ran

pub returns-clause-part : goal.returns-clause-part
returns-clause-part g c =
    let p = whole.program c.args.program.now in
    let made = λ (next : frames.Next). machine_of c.in-Ok-first_machine.machine next [] in
    let vs = c.in-Ok.arguments.items in
    let is = started p c.args.arg (to_z w64 (of_z w64 c.args.arg)) c.args.budget vs made
    (to_z-of_z w64 c.args.arg c.ranges.arg) c.in-Ok-first_machine.ensures c.in-Ok.ensures in
    part_of (TookEvents g.O.Sink.taken g.O.Sink.faults g.N.Names.named) p c.args.arg c.args.budget
    (made (first_call p vs)) is c.args.lines.now c.run.new.lines c.in-Err.ensures.part

pub returns-clause-failed : goal.returns-clause-failed
returns-clause-failed g c =
    has_failed g.O.Sink.taken g.O.Sink.faults g.N.Names.named
    (whole.program c.args.program.now) _ c.args.lines.now
    c.run.new.machine c.run.new.lines c.in-Err.error c.in-Err.ensures.stopped
