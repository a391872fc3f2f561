use Rattle.std.proofs.Common.{ap, ◌∙◌}
use Rattle.source_machine.specs.Machine.{closed}
use Rattle.source_steps.specs.Machines.{machine_of}
use Rattle.source_steps.proofs.machine.Interpreter.close_part.Goals as goal

pub returns-in-Some : goal.returns-in-Some
returns-in-Some c = λ x es.
    ap (λ part. closed part c.args.activation (machine_of c.args.self.now x es)) c.in-Some.is
    ∙ c.point_above.ensures x es
