use Rattle.std.proofs.Common.{◌≡◌, ◌/◌, ℕ, cond, Some}
use Rattle.std.specs.Prelude.{◌&&◌, nat_le, nat_lt}
use Rattle.x64_memory.specs.Pages.{zero_page}
use Rattle.x64_memory.specs.Regions.{region_mode}
use Rattle.x64_replay.specs.PageTrees.{pages_of}
use Rattle.x64_replay.proofs.map_space.map_region.Given as goal

abbrev pub invariant-loop-number : goal.invariant-loop-number
invariant-loop-number l = (k : ℕ) → pages_of l.pages k
    ≡ cond (nat_le (l.fn.region.start / 4096) k && nat_lt k l.number)
    (Some (zero_page (region_mode l.fn.region))) (pages_of l.fn.pages k)
