use Rattle.std.proofs.Common.{◌-◌, sym, ◌∙◌, arith}
use Rattle.x64_memory.specs.Words.{may_write}
use Rattle.x64_memory.proofs.Steps.{first_refused-more}
use Rattle.x64_memory.proofs.paged.first_unwritable.Goals as goal

pub loop-i-preserved : goal.loop-i-preserved
loop-i-preserved g c =
    first_refused-more (may_write (g.P.ReadPages.memory c.args.space.now))
    (c.args.count - c.loop-i._i) _ c.loop-i.here (omega arith)
    (sym c.is_writable.ensures ∙ c.if-not-is_writable.false)
    ∙ c.loop-i.invariant
