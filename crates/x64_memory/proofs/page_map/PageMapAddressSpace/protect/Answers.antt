use Rattle.std.proofs.Common.{◌/◌, ◌∙◌, sym, ap, ℤ, w32}
use Rattle.std.proofs.lemmas.Int.{to_z-of_z}
use Rattle.x64_memory.specs.Words.{with_rights, protected, Page, paged, page_numbered}
use Rattle.x64_memory.proofs.Ordered.{page_set, page_kept}
use Rattle.x64_memory.proofs.Paging.{rights_set}
use Rattle.x64_memory.proofs.page_map.PageMapAddressSpace.protect.Goals as goal

pub returns-in-Some-index-clause-after : goal.returns-in-Some-index-clause-after
returns-in-Some-index-clause-after c =
    let s = c.args.self.now in
    let p = c.index_mut.result.now in
    let i = c.in-Some-index.index in
    let q : Page = record p { protection = record p.protection { rights = c.in-Some.asked } } in
    let pages = page_numbered s.stretches.items s.pages.items in
    let at = sym c.in-Some-index.ensures.value in
    let had = page_kept s.stretches.items s.pages.items (c.args.at / 4096) i p at
    c.in-Some-index.ensures.within c.index_mut.ensures.value in
    rights_set pages p c.args.at c.in-Some.asked had _
    (page_set s.stretches.items s.pages.items (c.args.at / 4096) i q s.ordered s.count at)
    ∙ ap (with_rights (paged pages) c.args.at) c.in-Some.ensures
    ∙ ap (λ (z : ℤ). protected (paged pages) c.args.at z)
    (to_z-of_z w32 c.args.protection c.ranges.protection)
