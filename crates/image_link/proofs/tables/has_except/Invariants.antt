use Rattle.std.proofs.Common.{◌≡◌, drop}
use Rattle.image_link.specs.Words.{has_except}
use Rattle.image_link.proofs.tables.has_except.Given as goal

abbrev pub invariant-loop-region : goal.invariant-loop-region
invariant-loop-region l = has_except (drop l.region-index l.regions) ≡ has_except l.regions
