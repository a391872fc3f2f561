use Rattle.std.proofs.Common.{◌≡◌, sym, ap, ◌∙◌, refl, arith, true, false, Bool, drop, [], List}
use Rattle.std.specs.Prelude.{◌||◌}
use Rattle.std.proofs.Math.ListN.{drop_of_length-le}
use Rattle.x64_memory.specs.declared.region.Region.{Region}
use Rattle.x64_memory.specs.Pages.{has_page}
use Rattle.x64_memory.specs.Regions.{mapped_over, in_regions}
use Rattle.x64_memory.proofs.Mapping.{arena_mapped}
use Rattle.x64_replay.specs.PageTrees.{pages_of}
use Rattle.x64_replay.proofs.Trees.{empty_memory, empty_holds}
use Rattle.x64_replay.proofs.map_space.MapSpace.new.Goals as goal

or_false : (a b : Bool) → b ≡ false → (a || b) ≡ a
or_false true b e = refl
or_false false b e = e

pub loop-region-init : goal.loop-region-init
loop-region-init c =
    let rs = c.args.regions.now in
    let m = c.new-pages.result in
    record {
      memory = ap (λ n. mapped_over n rs) (empty_memory m c.new-pages.ensures.empty);
      holds = λ a. or_false (in_regions rs a) (has_page (pages_of m) a)
          (empty_holds m a c.new-pages.ensures.empty);
    }

pub invariant_of-result : goal.invariant_of-result
invariant_of-result c =
    let rs = c.args.regions.now in
    let pages = pages_of c.loop-region.pages in
    let end : drop c.loop-region.region-index rs ≡ [] = drop_of_length-le rs (omega arith) in
    record {
      arena = arena_mapped pages rs (λ a. ap (λ (t : List Region). in_regions t a
          || has_page pages a) (sym end) ∙ c.loop-region.invariant.holds a) c.requires.arena;
    }
