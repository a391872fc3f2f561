-- The worked programs that show their live activations, computed.
use Rattle.std.proofs.Common.{refl}
use Rattle.source_meaning.specs.Words.{computed}
use Rattle.source_meaning.specs.WalkRows.{WalkInFilter, WalkAfterCollision, WalkRowsAreSound}

pub walk_in_filter : WalkInFilter
unfolding computed
walk_in_filter = refl

pub walk_after_collision : WalkAfterCollision
unfolding computed
walk_after_collision = refl

pub walk_rows_are_sound : WalkRowsAreSound
walk_rows_are_sound = record { walk_in_filter = refl; walk_after_collision = refl }
