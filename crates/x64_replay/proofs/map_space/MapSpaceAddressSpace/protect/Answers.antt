use Rattle.std.proofs.Common.{◌≡◌, ◌/◌, ◌∙◌, Some, rules, sym, ap, ℤ, w32}
use Rattle.std.proofs.lemmas.Int.{to_z-of_z}
use Rattle.flat_memory.specs.Memory.{with_rights, protected}
use Rattle.x64_memory.specs.Pages.{paged}
use Rattle.x64_memory.specs.declared.page.Page.{Page}
use Rattle.x64_memory.proofs.Paging.{rights_set}
use Rattle.x64_replay.specs.PageTrees.{pages_of}
use Rattle.x64_replay.proofs.Trees.{page_put}
use Rattle.x64_replay.proofs.map_space.MapSpaceAddressSpace.protect.Goals as goal

pub returns-in-Some-get_mut-clause-after : goal.returns-in-Some-get_mut-clause-after
returns-in-Some-get_mut-clause-after c =
    let m = c.args.self.now.pages in
    let p = c.in-Some-get_mut.page.now in
    let q : Page = record p { protection = record p.protection { rights = c.in-Some.rights } } in
    let had : pages_of m (c.args.at / 4096) ≡ Some p = sym c.in-Some-get_mut.ensures.value in
    rights_set (pages_of m) p c.args.at c.in-Some.rights had _
    (page_put m (c.get_mut.follows.lender q) (c.args.at / 4096) q
    ((c.get_mut.follows.holds q).3 (search rules)))
    ∙ ap (with_rights (paged (pages_of m)) c.args.at) c.in-Some.ensures
    ∙ ap (λ (z : ℤ). protected (paged (pages_of m)) c.args.at z)
    (to_z-of_z w32 c.args.protection c.ranges.protection)
