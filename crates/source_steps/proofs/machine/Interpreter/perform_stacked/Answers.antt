use Rattle.std.proofs.Common.{ap, sym, ◌∙◌}
use Rattle.std.specs.Prelude.{None, Some}
use Rattle.x64_memory.specs.PageMaps.{memory_of}
use Rattle.source_meaning.specs.declared.ended.Ended.TheVariants.{Undefined}
use Rattle.source_meaning.specs.State.{End, set_memory}
use Rattle.source_operations.specs.Outcomes.{outcome_of, is_given}
use Rattle.source_machine.specs.Machine.{stored, over, at_state}
use Rattle.source_steps.specs.Machines.{machine_of}
use Rattle.source_steps.proofs.machine.Interpreter.perform_stacked.Goals as goal

pub returns-in-Gives : goal.returns-in-Gives
returns-in-Gives c = λ go x es.
    let m = machine_of c.args.self.now x es in
    ap (λ r. stored m r go) (sym c.perform.ensures.outcome
    ∙ ap (λ o. outcome_of o (memory_of c.perform.new.space)) c.in-Gives.is)

pub returns-in-Raises : goal.returns-in-Raises
returns-in-Raises c = λ go x es.
    let m = machine_of c.args.self.now x es in
    ap (λ r. stored m r go) (sym c.perform.ensures.outcome
    ∙ ap (λ o. outcome_of o (memory_of c.perform.new.space)) c.in-Raises.is)
    ∙ ap (λ k. over (at_state m (set_memory m.state k)) (End None))
    (sym (c.perform.ensures.kept (ap is_given c.in-Raises.is)))

pub returns-in-Undefined : goal.returns-in-Undefined
returns-in-Undefined c = λ go x es.
    let m = machine_of c.args.self.now x es in
    ap (λ r. stored m r go) (sym c.perform.ensures.outcome
    ∙ ap (λ o. outcome_of o (memory_of c.perform.new.space)) c.in-Undefined.is)
    ∙ ap (λ k. over (at_state m (set_memory m.state k))
    (End (Some (Undefined c.in-Undefined.address))))
    (sym (c.perform.ensures.kept (ap is_given c.in-Undefined.is)))
