use Rattle.std.proofs.Common.{ap, ◌∙◌}
use Rattle.source_meaning.specs.DataStack.{reset_pointer_if}
use Rattle.source_machine.specs.Machine.{at_state}
use Rattle.source_steps.specs.Machines.{machine_of, state_of}
use Rattle.source_steps.proofs.machine.Interpreter.reset_pointer_if.Goals as goal

pub returns-then-flag : goal.returns-then-flag
returns-then-flag c = λ x es.
    ap (λ flag. at_state (machine_of c.args.self.now x es)
    (reset_pointer_if flag c.args.part c.args.activation (state_of c.args.self.now es)))
    c.if-flag.true
    ∙ c.reset_pointer.ensures x es
