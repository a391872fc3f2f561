use Rattle.std.proofs.Common.{◌≡◌, ◌-◌, ◌++◌, map, take, Some, None}
use Rattle.std.specs.Prelude.{replicate}
use Rattle.template_code.specs.declared.layout.TheConstants.{MOST_REGISTERS}
use Rattle.image_link.proofs.routine.placed_locals.Given as goal

abbrev pub invariant-loop-index : goal.invariant-loop-index
invariant-loop-index l =
    l.places ≡ map Some (take l.index l.locals) ++ replicate (MOST_REGISTERS - l.index) None
