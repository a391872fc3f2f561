-- The rows, computed.
use Rattle.std.proofs.Common.{refl}
use Rattle.source_meaning.specs.Meaning.{computed}
use Rattle.linear_machine.specs.Run.{computed_linear}
use Rattle.worked_limits.specs.Rows.{LocalsWeigh, HandlersAdded, LeftHeavy, LeftHandlerLands, LeftHandlerIsDeep, WalkInHandler}

pub locals_weigh : LocalsWeigh
locals_weigh = (refl, refl, refl, refl)

pub handlers_added : HandlersAdded
handlers_added = (refl, refl, refl, refl)

pub left_heavy : LeftHeavy
unfolding computed computed_linear
left_heavy = ((refl, refl), (refl, refl))

pub left_handler_lands : LeftHandlerLands
unfolding computed computed_linear
left_handler_lands = (refl, refl)

pub left_handler_is_deep : LeftHandlerIsDeep
unfolding computed computed_linear
left_handler_is_deep = (refl, refl)

pub walk_in_handler : WalkInHandler
unfolding computed computed_linear
walk_in_handler = (refl, refl)
