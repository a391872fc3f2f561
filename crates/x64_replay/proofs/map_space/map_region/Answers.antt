use Rattle.std.proofs.Common.{◌≡◌, ◌/◌, cond, eqb, Some, refl, ap, ◌∙◌, arith}
use Rattle.std.specs.Prelude.{◌&&◌, nat_le, nat_lt}
use Rattle.flat_memory.specs.declared.protection.Protection.{Protection}
use Rattle.x64_memory.specs.declared.region.Region.{Region}
use Rattle.x64_memory.specs.declared.stretch.Stretch.{Stretch}
use Rattle.x64_memory.specs.declared.page.Page.{Page}
use Rattle.x64_memory.specs.Pages.{zero_page}
use Rattle.x64_memory.specs.Regions.{region_mode}
use Rattle.x64_memory.proofs.Mapping.{region_over, holds_over}
use Rattle.x64_replay.specs.PageTrees.{pages_of}
use Rattle.x64_replay.proofs.Trees.{page_put, none_put, one_put}
use Rattle.x64_replay.proofs.map_space.map_region.Goals as goal

pub loop-number-init : goal.loop-number-init
loop-number-init c k =
    none_put (c.args.region.now.start / 4096) k (Some (zero_page (region_mode c.args.region.now)))
    (pages_of c.args.pages.now k)

pub loop-number-preserved : goal.loop-number-preserved
loop-number-preserved c k =
    let r = c.args.region.now in
    let n = c.loop-number.number in
    let from = r.start / 4096 in
    let z : Page = zero_page (region_mode r) in
    let old = pages_of c.loop-number.pages k in
    page_put c.loop-number.pages c.insert.new.self n (zero_page c.protection.result)
    c.in_ok-insert.ensures.updates k
    ∙ ap (λ (o : Protection). cond (eqb k n) (Some (zero_page o)) old) c.protection.ensures
    ∙ ap (λ o. cond (eqb k n) (Some z) o) (c.loop-number.invariant k)
    ∙ one_put from n k (Some z) (pages_of c.args.pages.now k) (omega arith)

-- the pages of a region
abbrev stretch : Region → Stretch
stretch r = record { first = r.start / 4096; end = r.end / 4096; index = 0 }

pub returns-clause-memory : goal.returns-clause-memory
returns-clause-memory c =
    let r = c.args.region.now in
    let order = c.requires.order in
    let end : c.loop-number.number ≡ r.end / 4096 = omega arith in
    region_over r (stretch r) c.requires.start c.requires.end refl refl (pages_of c.args.pages.now)
    (pages_of c.loop-number.pages) (region_mode r) refl
    (λ k. c.loop-number.invariant k ∙ ap (λ n. cond (nat_le (r.start / 4096) k && nat_lt k n)
    (Some (zero_page (region_mode r))) (pages_of c.args.pages.now k)) end)

pub returns-clause-holds : goal.returns-clause-holds
returns-clause-holds c =
    let r = c.args.region.now in
    let order = c.requires.order in
    let end : c.loop-number.number ≡ r.end / 4096 = omega arith in
    holds_over r (stretch r) c.requires.start c.requires.end refl refl (pages_of c.args.pages.now)
    (pages_of c.loop-number.pages) (region_mode r) refl
    (λ k. c.loop-number.invariant k ∙ ap (λ n. cond (nat_le (r.start / 4096) k && nat_lt k n)
    (Some (zero_page (region_mode r))) (pages_of c.args.pages.now k)) end)
