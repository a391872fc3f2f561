use Rattle.std.proofs.Common.{ap, ◌∙◌}
use Rattle.source_meaning.specs.DataStack.{reset_pointer}
use Rattle.source_machine.specs.Machine.{at_state}
use Rattle.source_steps.specs.Machines.{machine_of, state_of}
use Rattle.source_steps.proofs.machine.Interpreter.reset_pointer.Goals as goal

pub returns-in-Some : goal.returns-in-Some
returns-in-Some c = λ x es.
    ap (λ part. at_state (machine_of c.args.self.now x es)
    (reset_pointer part c.args.activation (state_of c.args.self.now es))) c.in-Some.is
    ∙ c.point_above.ensures x es
