use Rattle.std.proofs.Common.{◌≡◌, ◌<◌, ◌/◌, ◌%◌, ◌-◌, ℕ, List, length, take, drop, get_or, rules, sym, ap, subst, arith, length-drop}
use Rattle.std.proofs.lemmas.List.{take_all}
use Rattle.x64_memory.specs.Words.{paged, IsRestOfPage, page_at, page_numbered}
use Rattle.x64_memory.proofs.Ordered.{page_kept}
use Rattle.x64_memory.proofs.Paging.{stretch_none, stretch_some}
use Rattle.x64_memory.proofs.page_map.PageMapReadPages.rest_of_page.Goals as goal

pub returns-in-None : goal.returns-in-None
returns-in-None c =
    let s = c.args.self.now in
    stretch_none (page_numbered s.stretches.items s.pages.items) c.args.at
    (ap (page_at s.pages.items) (sym c.in-None.ensures.value)) (omega arith)

pub returns-in-Some : goal.returns-in-Some
returns-in-Some c =
    let s = c.args.self.now in
    let p = c.index-page.result.now in
    let pages = page_numbered s.stretches.items s.pages.items in
    let had = page_kept s.stretches.items s.pages.items (c.args.at / 4096) c.in-Some.index p
    (sym c.in-Some.ensures.value) c.in-Some.ensures.within c.index-page.ensures in
    let len : length p.bytes ≡ 4096 = search rules in
    let fits : (i : ℕ) → get_or p.bytes i 0 < 256 = search rules in
    let rest = stretch_some pages c.args.at p had (omega arith) len fits in
    let all : take (4096 - c.args.at % 4096) (drop (c.args.at % 4096) p.bytes)
    ≡ drop (c.args.at % 4096) p.bytes = take_all (4096 - c.args.at % 4096)
    (drop (c.args.at % 4096) p.bytes) (omega (arith, length-drop (c.args.at % 4096) p.bytes)) in
    subst (λ (xs : List ℕ). IsRestOfPage (paged pages) c.args.at p.protection xs) (sym all) rest
