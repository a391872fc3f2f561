use Rattle.std.proofs.Common.{ap, sym, ◌∙◌, refl}
use Rattle.x64_memory.specs.PageMaps.{memory_of}
use Rattle.source_meaning.specs.State.{set_memory}
use Rattle.source_operations.specs.Outcomes.{outcome_of, is_given}
use Rattle.source_values.specs.Direct as spec
use Rattle.source_steps.specs.Machines.{machine_of, state_of}
use Rattle.source_steps.proofs.machine.Interpreter.store.Goals as goal

pub returns-in-Gives : goal.returns-in-Gives
returns-in-Gives c = λ es.
    let st = state_of c.args.self.now es in
    let memory = memory_of c.perform.new.space in (
      set_memory st memory,
      ap (spec.stored st) (sym c.perform.ensures.outcome)
          ∙ ap (λ r. spec.stored st (outcome_of r memory)) c.in-Gives.is,
      λ x. refl,
    )

pub returns-in-Raises : goal.returns-in-Raises
returns-in-Raises c = λ x es.
    ap (λ k. record (machine_of c.args.self.now x es)
    { state = set_memory (state_of c.args.self.now es) k })
    (c.perform.ensures.kept (ap is_given c.in-Raises.is))

pub returns-in-Undefined : goal.returns-in-Undefined
returns-in-Undefined c = λ x es.
    ap (λ k. record (machine_of c.args.self.now x es)
    { state = set_memory (state_of c.args.self.now es) k })
    (c.perform.ensures.kept (ap is_given c.in-Undefined.is))
