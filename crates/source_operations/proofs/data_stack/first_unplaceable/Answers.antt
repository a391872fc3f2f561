use Rattle.std.proofs.Common.{◌-◌, sym, ◌∙◌, arith}
use Rattle.x64_memory.specs.PageMaps.{memory_of}
use Rattle.x64_memory.proofs.Steps.{first_refused-more}
use Rattle.source_operations.specs.Reserved.{reserved_below, may_place}
use Rattle.source_operations.proofs.data_stack.first_unplaceable.Goals as goal

pub loop-i-preserved : goal.loop-i-preserved
loop-i-preserved c =
    first_refused-more (may_place (reserved_below c.args.data_end) (memory_of c.args.space.now))
    (c.args.count - c.loop-i._i) _ c.loop-i.here (omega arith)
    (sym c.may_place.ensures ∙ c.if-not-may_place.false)
    ∙ c.loop-i.invariant
