use Rattle.std.proofs.Common.{◌+◌, ◌%◌, ◌^◌, ap, sym, ◌∙◌}
use Rattle.flat_memory.specs.Memory.{with_pointer}
use Rattle.x64_memory.specs.PageMaps.{memory_of}
use Rattle.source_meaning.specs.State.{set_memory}
use Rattle.source_machine.specs.Machine.{at_state}
use Rattle.source_steps.specs.Machines.{machine_of}
use Rattle.source_steps.proofs.machine.Interpreter.point_above.Goals as goal

pub returns : goal.returns
returns c = λ x es.
    let m = machine_of c.args.self.now x es in
    let memory = memory_of c.args.self.now.memory in
    ap (λ k. at_state m (set_memory m.state k)) (sym (c.set_pointer.ensures
    ∙ ap (λ b. with_pointer memory ((b + c.args.size) % 2 ^ 64)) c.local-base.ensures))
