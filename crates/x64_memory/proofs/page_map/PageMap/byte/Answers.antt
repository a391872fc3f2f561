use Rattle.std.proofs.Common.{◌/◌, ◌%◌, sym, ap}
use Rattle.x64_memory.specs.Words.{page_at, page_byte, paged}
use Rattle.x64_memory.proofs.Ordered.{page_kept}
use Rattle.x64_memory.proofs.page_map.PageMap.byte.Goals as goal

pub returns-in-None : goal.returns-in-None
unfolding paged
returns-in-None c =
    sym (ap (λ o. page_byte o (c.args.at % 4096))
    (ap (page_at c.args.self.now.pages.items) (sym c.in-None.ensures.value)))

pub returns-in-Some : goal.returns-in-Some
unfolding paged
returns-in-Some c =
    let s = c.args.self.now in
    sym (ap (λ o. page_byte o (c.args.at % 4096))
    (page_kept s.stretches.items s.pages.items (c.args.at / 4096) c.in-Some.index
    c.index-in-Some.result.now (sym c.in-Some.ensures.value) c.in-Some.ensures.within
    c.index-in-Some.ensures))
