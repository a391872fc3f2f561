use Rattle.std.proofs.Common.{sym, ap, ◌∙◌}
use Rattle.flat_memory.specs.Memory.{first_refused, after_store}
use Rattle.x64_memory.specs.PageMaps.{memory_of}
use Rattle.source_operations.specs.Reserved.{reserved_below, may_place}
use Rattle.source_operations.proofs.DataStack.{placed_all}
use Rattle.source_operations.proofs.data_stack.place.Goals as goal

pub returns-in-None-clause-outcome : goal.returns-in-None-clause-outcome
returns-in-None-clause-outcome c =
    let m = memory_of c.args.space.now in
    let reserved = reserved_below c.args.data_end in
    placed_all reserved c.args.width c.args.at c.args.number c.args.given m
    (memory_of c.store.new.self)
    (ap (λ n. first_refused (may_place reserved m) n c.args.at) (sym c.bytes.ensures.value)
    ∙ sym c.in-None.ensures)
    (c.store.ensures.after
    ∙ ap (after_store m c.args.at c.args.width) c.zero_extend.ensures.value)
