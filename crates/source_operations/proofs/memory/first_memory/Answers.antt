use Rattle.std.proofs.Common.{◌∙◌, ap}
use Rattle.host_layout.specs.declared.range.TheConstants.{FIRST_DATA, FIRST_DATA_STACK}
use Rattle.flat_memory.specs.Memory.{with_pointer}
use Rattle.x64_memory.specs.Regions.{mapped, filled}
use Rattle.source_operations.specs.Regions.{regions}
use Rattle.source_operations.proofs.FirstMemory.{globals_mapped}
use Rattle.source_operations.proofs.memory.first_memory.Goals as goal

pub returns : goal.returns
returns c =
    let globals = c.args.globals.now in
    c.set_pointer.ensures
    ∙ ap (λ m. with_pointer m FIRST_DATA_STACK) (c.fill.ensures.memory
    ∙ ap (λ m. filled m FIRST_DATA globals)
    (c.in_ok-space.ensures.memory ∙ ap mapped (c.regions-regions.ensures
    ∙ ap regions c.data_end.ensures)))
    ∙ globals_mapped globals
