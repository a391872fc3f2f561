use Rattle.std.proofs.Common.{◌+◌, ◌%◌, ◌^◌, ap, sym, ◌∙◌}
use Rattle.flat_memory.specs.Memory.{with_pointer}
use Rattle.x64_memory.specs.PageMaps.{memory_of}
use Rattle.source_machine.specs.Machine.{brought}
use Rattle.source_steps.specs.Activations.{frames_of}
use Rattle.source_steps.specs.Locals.{with_local_in}
use Rattle.source_steps.specs.Machines.{machine_of, state_of}
use Rattle.source_steps.proofs.machine.Interpreter.open.Goals as goal

pub returns : goal.returns
returns c = λ program ends plan x es.
    let m = c.args.self.now in
    let d = c.args.frame.now in
    let k = c.args.activation in
    let memory = memory_of m.memory in
    let frames_is = c.set_local.ensures
    ∙ ap (with_local_in (frames_of m.activations) k d.base) c.pointer-pointer.ensures in
    let memory_is = c.set_pointer.ensures ∙ ap (λ n. with_pointer memory ((n + d.size) % 2 ^ 64))
    c.pointer-pointer.ensures in
    ap (brought program d.base d.parameters.items k plan)
    (λ i. record (machine_of m x es) {
      state = record (state_of m es) { frames = sym frames_is i; memory = sym memory_is i };
    })
    ∙ c.bring.ensures program ends plan x es
