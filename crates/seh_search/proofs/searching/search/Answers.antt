use Rattle.std.proofs.Common.{◌+◌, ◌-◌, sym, ◌∙◌, arith}
use Rattle.virtual_unwind.specs.CallerOf.{functions_of}
use Rattle.seh_search.proofs.Searches.{search-more}
use Rattle.seh_search.proofs.searching.search.Goals as goal

pub loop-i-preserved : goal.loop-i-preserved
loop-i-preserved g c = search-more (0xFFFF_FFFF_FFFF_FFFF - c.loop-i._i)
    (0xFFFF_FFFF_FFFF_FFFF - (c.loop-i._i + 1)) (functions_of c.args.tables.now)
    (g.S.CodeSpace.memory c.args.space.now) c.loop-i.at c.in-Ok.next (omega arith)
    (sym c.in-Ok.ensures) ∙ c.loop-i.invariant
