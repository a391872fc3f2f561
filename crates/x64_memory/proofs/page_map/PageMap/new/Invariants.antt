use Rattle.std.proofs.Common.{◌≡◌, ◌*◌, ℕ, drop, length}
use Rattle.std.specs.Prelude.{◌||◌}
use Rattle.x64_memory.specs.Words.{paged, has_page, mapped, mapped_over, in_regions, AreAscending, AreOrdered, count_from, end_from, page_numbered}
use Rattle.x64_memory.proofs.page_map.PageMap.new.Given as goal

abbrev pub invariant-loop-region : goal.invariant-loop-region
invariant-loop-region l = record {
  memory : mapped_over (paged (page_numbered l.stretches.items l.pages.items))
      (drop l.region-index l.regions) ≡ mapped l.regions;
  holds : (a : ℕ) → (in_regions (drop l.region-index l.regions) a
      || has_page (page_numbered l.stretches.items l.pages.items) a) ≡ in_regions l.regions a;
  ordered : AreOrdered 0 0 l.stretches.items;
  count : length l.pages.items ≡ count_from 0 l.stretches.items;
  ascending : AreAscending (4096 * end_from 0 l.stretches.items) (drop l.region-index l.regions);
}
