use Rattle.std.proofs.Common.{◌≡◌, ◌++◌, ◌+◌, ◌*◌, ◌<◌, ◌^◌, length, drop}
use Rattle.image_link.specs.Words.{chained_infos, fragment_ranges}
use Rattle.image_link.proofs.fragments.put_chains.Given as goal

abbrev pub invariant-loop-fragment : goal.invariant-loop-fragment
invariant-loop-fragment l = record {
  infos : l.xdata.items ++ chained_infos (drop l.fragment-index l.fragments)
      ≡ l.fn.xdata.items ++ chained_infos l.fragments;
  entries : l.ranges.items ++ fragment_ranges l.at (drop l.fragment-index l.fragments)
      ≡ l.fn.ranges.items ++ fragment_ranges l.fn.xdata_at l.fragments;
  room : l.at + 16 * length (drop l.fragment-index l.fragments) < 2 ^ 32;
}
