use Rattle.std.proofs.Common.{◌≡◌, ◌/◌, ◌%◌, ◌<◌, ℕ, length, drop, get_or, rules, sym, ap, ◌∙◌, refl, arith, length-drop}
use Rattle.x64_memory.specs.Words.{bytes_of, unless_refused, with_bytes, with_number, Page, paged, page_numbered}
use Rattle.x64_memory.proofs.Ordered.{page_set, page_kept}
use Rattle.x64_memory.proofs.Paging.{number_put, stretch_some}
use Rattle.x64_memory.proofs.RestsOfPages.{store_all, may_store_is}
use Rattle.x64_memory.proofs.page_map.PageMapPaged.put_if.Goals as goal

pub returns-else-rest-count-clause-granted : goal.returns-else-rest-count-clause-granted
returns-else-rest-count-clause-granted c _ =
    let s = c.args.self.now in
    let p = c.index-kept.result.now in
    let pages = page_numbered s.stretches.items s.pages.items in
    let had = page_kept s.stretches.items s.pages.items (c.args.at / 4096) c.in-Some.index p
    (sym c.in-Some.ensures.value) c.in-Some.ensures.within c.index-kept.ensures in
    let len : length p.bytes ≡ 4096 = search rules in
    let fits : (i : ℕ) → get_or p.bytes i 0 < 256 = search rules in
    let rest = stretch_some pages c.args.at p had (omega arith) len fits in
    let count : c.bytes-count.result ≡ bytes_of c.args.width = c.bytes-count.ensures.value in
    sym (store_all (paged pages) c.args.at c.args.width p.protection
    (drop (c.args.at % 4096) p.bytes) rest
    (omega (arith, length-drop (c.args.at % 4096) p.bytes))
    (sym c.is_writable-writable.ensures ∙ c.if-not-writable.false))

pub returns-else-rest-count-clause-put : goal.returns-else-rest-count-clause-put
returns-else-rest-count-clause-put c t =
    let s = c.args.self.now in
    let n = bytes_of c.args.width in
    let p = c.index_mut-page.result.now in
    let i = c.in-Some.index in
    let pages = page_numbered s.stretches.items s.pages.items in
    let m = paged pages in
    let q : Page = record { protection = p.protection; bytes = c.put_number.new.bytes } in
    let at = sym c.in-Some.ensures.value in
    let had = page_kept s.stretches.items s.pages.items (c.args.at / 4096) i p at
    c.in-Some.ensures.within c.index_mut-page.ensures.value in
    let count : c.bytes-count.result ≡ n = c.bytes-count.ensures.value in
    let none = may_store_is m c.args.at c.args.width
    (sym (returns-else-rest-count-clause-granted c t)) in
    number_put pages p q n c.args.at c.args.value had (omega arith) (omega arith)
    c.put_number.ensures refl _
    (page_set s.stretches.items s.pages.items (c.args.at / 4096) i q s.ordered s.count at)
    ∙ sym (ap (λ o. unless_refused o (with_bytes m (with_number m.byte n c.args.at c.args.value)) m)
    none)
