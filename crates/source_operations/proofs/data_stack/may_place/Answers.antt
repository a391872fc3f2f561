use Rattle.std.proofs.Common.{sym, ap, ◌∙◌}
use Rattle.std.specs.Prelude.{not, ◌&&◌, is_ok}
use Rattle.flat_memory.specs.Memory.{may_write}
use Rattle.x64_memory.specs.PageMaps.{memory_of}
use Rattle.source_operations.proofs.DataStack.{byte_stored}
use Rattle.source_operations.proofs.data_stack.may_place.Goals as goal

pub returns-then-not-is_reserved : goal.returns-then-not-is_reserved
returns-then-not-is_reserved c =
    let m = memory_of c.args.space.now in
    c.is_ok.ensures.value ∙ ap is_ok c.may_store.ensures ∙ byte_stored m c.args.at
    ∙ ap (λ b. not b && may_write m c.args.at)
    (sym c.if-not-is_reserved.true ∙ c.is_reserved.ensures)
