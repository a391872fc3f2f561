use Rattle.std.proofs.Common.{◌-◌, ap, ◌∙◌, arith}
use Rattle.source_machine.specs.Frames.{ClearElements}
use Rattle.source_machine.specs.Machine.{with_next}
use Rattle.source_plans.specs.Views as views
use Rattle.source_steps.specs.Machines.{machine_of}
use Rattle.source_steps.specs.DataStack.{unless_over}
use Rattle.source_steps.proofs.Stacked.{cleared_step}
use Rattle.source_steps.proofs.machine.Interpreter.clear.Goals as goal

pub returns-in-None : goal.returns-in-None
returns-in-None c = λ program ends x es.
    let v = c.args.variable.now in
    let p = views.place_of c.args.place in
    let m' = machine_of c.perform_stacked.new.self x es in
    cleared_step program c.args.data_end ends m' c.perform_stacked.result v c.args.count
    c.local-base.result c.bytes.result p (machine_of c.args.self.now x es) (omega arith)
    (omega arith) c.bytes.ensures.value c.local-base.ensures
    (λ go. c.perform_stacked.ensures go x es)
    ∙ ap (λ how. unless_over how (λ m. with_next m (ClearElements v (c.args.count - 1) p)) m')
    c.in-None.is

pub returns-in-Some : goal.returns-in-Some
returns-in-Some c = λ program ends x es.
    let v = c.args.variable.now in
    let p = views.place_of c.args.place in
    let m' = machine_of c.perform_stacked.new.self x es in
    cleared_step program c.args.data_end ends m' c.perform_stacked.result v c.args.count
    c.local-base.result c.bytes.result p (machine_of c.args.self.now x es) (omega arith)
    (omega arith) c.bytes.ensures.value c.local-base.ensures
    (λ go. c.perform_stacked.ensures go x es)
    ∙ ap (λ how. unless_over how (λ m. with_next m (ClearElements v (c.args.count - 1) p)) m')
    c.in-Some.is
