use Rattle.std.proofs.Common.{◌≡◌, ◌<◌, ◌%◌, ◌-◌, ℕ, List, length, take, drop, get_or, rules, sym, subst, arith, length-drop}
use Rattle.std.proofs.lemmas.List.{take_all}
use Rattle.x64_memory.specs.Pages.{paged, IsRestOfPage}
use Rattle.x64_memory.proofs.Paging.{stretch_none, stretch_some}
use Rattle.x64_replay.specs.PageTrees.{pages_of}
use Rattle.x64_replay.proofs.map_space.MapSpaceReadPages.rest_of_page.Goals as goal

pub returns-in-None : goal.returns-in-None
returns-in-None c = stretch_none (pages_of c.args.self.now.pages) c.args.at
    (sym c.in-None.ensures.value) (omega arith)

pub returns-in-Some : goal.returns-in-Some
returns-in-Some c =
    let pages = pages_of c.args.self.now.pages in
    let p = c.in-Some.page.now in
    let len : length p.bytes ≡ 4096 = search rules in
    let fits : (i : ℕ) → get_or p.bytes i 0 < 256 = search rules in
    let rest = stretch_some pages c.args.at p (sym c.in-Some.ensures.value) (omega arith) len fits
    in
    let all : take (4096 - c.args.at % 4096) (drop (c.args.at % 4096) p.bytes)
    ≡ drop (c.args.at % 4096) p.bytes = take_all (4096 - c.args.at % 4096)
    (drop (c.args.at % 4096) p.bytes) (omega (arith, length-drop (c.args.at % 4096) p.bytes)) in
    subst (λ (xs : List ℕ). IsRestOfPage (paged pages) c.args.at p.protection xs) (sym all) rest
