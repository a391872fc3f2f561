use Rattle.std.proofs.Common.{◌-◌, ap, sym, ◌∙◌, arith}
use Rattle.std.specs.Prelude.{not}
use Rattle.source_operations.specs.Reserved.{reserved_below}
use Rattle.x64_memory.proofs.Steps.{first_refused-more}
use Rattle.source_operations.proofs.reserved.first_reserved.Goals as goal

pub loop-i-preserved : goal.loop-i-preserved
loop-i-preserved c =
    first_refused-more (λ a. not (reserved_below c.args.data_end a)) (c.args.count - c.loop-i._i) _
    c.loop-i.here (omega arith) (ap not (sym c.is_reserved.ensures ∙ c.if-is_reserved.false))
    ∙ c.loop-i.invariant
