use Rattle.std.proofs.Common.{◌≡◌, ℕ, drop}
use Rattle.std.specs.Prelude.{◌||◌}
use Rattle.x64_memory.specs.Pages.{paged, has_page}
use Rattle.x64_memory.specs.Regions.{mapped, mapped_over, in_regions}
use Rattle.x64_replay.specs.PageTrees.{pages_of}
use Rattle.x64_replay.proofs.map_space.MapSpace.new.Given as goal

abbrev pub invariant-loop-region : goal.invariant-loop-region
invariant-loop-region l = record {
  memory : mapped_over (paged (pages_of l.pages)) (drop l.region-index l.regions)
      ≡ mapped l.regions;
  holds : (a : ℕ) → (in_regions (drop l.region-index l.regions) a || has_page (pages_of l.pages) a)
      ≡ in_regions l.regions a;
}
