-- At a call each region holds the next instruction too, or neither.
use Rattle.lowering_invariants.proofs.Regions.ReturnRegions.{calls_stay}
use Rattle.lowering_invariants.specs.Words.{LoweredHasSameRegions}

pub has_same_regions : LoweredHasSameRegions
has_same_regions program name b e = (calls_stay program name b e).hold
