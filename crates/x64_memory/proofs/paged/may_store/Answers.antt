use Rattle.std.proofs.Common.{sym, arith}
use Rattle.x64_memory.proofs.RestsOfPages.{store_all}
use Rattle.x64_memory.proofs.paged.may_store.Goals as goal

pub returns-then-is_writable : goal.returns-then-is_writable
returns-then-is_writable g c = store_all (g.P.ReadPages.memory c.args.space.now) c.args.at
    c.args.width _ _ c.rest_of_page.ensures (omega arith) (sym c.if-is_writable.ensures)
