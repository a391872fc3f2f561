use Rattle.std.proofs.Common.{◌+◌, ◌-◌, sym, ◌∙◌, arith}
use Rattle.virtual_unwind.specs.CallerOf.{functions_of}
use Rattle.seh_unwind.proofs.Unwinds.{unwind-more}
use Rattle.seh_unwind.proofs.unwinding.unwind.Goals as goal

pub loop-i-preserved : goal.loop-i-preserved
loop-i-preserved g c =
    unwind-more (0xFFFF_FFFF_FFFF_FFFF - c.loop-i._i) (0xFFFF_FFFF_FFFF_FFFF - (c.loop-i._i + 1))
    (functions_of c.args.tables.now) (g.S.CodeSpace.memory c.args.space.now)
    c.args.dispatch.now.target_frame c.args.dispatch.now.target c.loop-i.at c.in-Ok.next
    (omega arith) (sym c.in-Ok.ensures)
    ∙ c.loop-i.invariant
