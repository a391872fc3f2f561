use Rattle.std.proofs.Common.{◌≡◌, drop}
use Rattle.image_link.specs.Words.{has_finally}
use Rattle.image_link.proofs.tables.has_finally.Given as goal

abbrev pub invariant-loop-region : goal.invariant-loop-region
invariant-loop-region l = has_finally (drop l.region-index l.regions) ≡ has_finally l.regions
