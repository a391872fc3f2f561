use Rattle.std.proofs.Common.{◌≡◌, ◌*◌, sym, ap, ◌∙◌, refl, arith, true, false, Bool, drop, [], subst, length}
use Rattle.std.specs.Prelude.{◌||◌}
use Rattle.std.proofs.Math.ListN.{drop_of_length-le}
use Rattle.std.proofs.Common.{List}
use Rattle.x64_memory.specs.Words.{Region, Stretch, has_page, mapped_over, in_regions, AreAscending, AreOrdered, count_from, end_from, page_numbered}
use Rattle.x64_memory.proofs.Mapping.{empty_memory, empty_holds, arena_mapped}
use Rattle.x64_memory.proofs.page_map.PageMap.new.Goals as goal

or_false : (a b : Bool) → b ≡ false → (a || b) ≡ a
or_false true b e = refl
or_false false b e = e

pub loop-region-init : goal.loop-region-init
loop-region-init c =
    let rs = c.args.regions.now in
    let ss = c.in_ok-stretches.stretches.items in
    let ps = c.in_ok-pages.pages.items in
    let none : ss ≡ [] = c.in_ok-stretches.ensures.items in
    let empty : ps ≡ [] = c.in_ok-pages.ensures.items in
    record {
      memory = ap (λ m. mapped_over m rs) (empty_memory ss ps none);
      holds = λ a. or_false (in_regions rs a) (has_page (page_numbered ss ps) a)
          (empty_holds ss ps a none);
      ordered = subst (AreOrdered 0 0) (sym none) tt;
      count = ap length empty ∙ sym (ap (count_from 0) none);
      ascending = subst (λ (xs : List Stretch). AreAscending (4096 * end_from 0 xs) rs) (sym none)
          c.requires.ascending;
    }

pub invariant_of-result : goal.invariant_of-result
invariant_of-result c =
    let rs = c.args.regions.now in
    let pages = page_numbered c.loop-region.stretches.items c.loop-region.pages.items in
    let end : drop c.loop-region.region-index rs ≡ [] = drop_of_length-le rs (omega arith) in
    record {
      ordered = c.loop-region.invariant.ordered;
      count = c.loop-region.invariant.count;
      arena = arena_mapped pages rs (λ a. ap (λ (t : List Region). in_regions t a
          || has_page pages a) (sym end) ∙ c.loop-region.invariant.holds a) c.requires.arena;
    }
