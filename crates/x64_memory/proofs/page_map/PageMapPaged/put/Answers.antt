use Rattle.std.proofs.Common.{◌/◌, sym, ap, refl, arith}
use Rattle.x64_memory.specs.Words.{bytes_of, Page, page_at, page_numbered}
use Rattle.x64_memory.proofs.Ordered.{page_set, page_kept}
use Rattle.x64_memory.proofs.Paging.{number_put, unmapped}
use Rattle.x64_memory.proofs.page_map.PageMapPaged.put.Goals as goal

pub returns-in-Some : goal.returns-in-Some
returns-in-Some c =
    let s = c.args.self.now in
    let n = bytes_of c.args.width in
    let p = c.index_mut-page.result.now in
    let i = c.in-Some.index in
    let q : Page = record { protection = p.protection; bytes = c.put_number.new.bytes } in
    let at = sym c.in-Some.ensures.value in
    let had = page_kept s.stretches.items s.pages.items (c.args.at / 4096) i p at
    c.in-Some.ensures.within c.index_mut-page.ensures.value in
    number_put (page_numbered s.stretches.items s.pages.items) p q n c.args.at c.args.value had
    (omega arith) (omega arith) c.put_number.ensures refl _
    (page_set s.stretches.items s.pages.items (c.args.at / 4096) i q s.ordered s.count at)

pub returns-in_default : goal.returns-in_default
returns-in_default c =
    let s = c.args.self.now in
    absurd (unmapped (page_numbered s.stretches.items s.pages.items) c.args.at
    (ap (page_at s.pages.items) (sym c.in_default.ensures.value)) c.requires.may)
