use Rattle.std.proofs.Common.{◌≡◌, drop}
use Rattle.seh_views.specs.Modules.{first_from}
use Rattle.seh_views.proofs.modules.first_module.Given as goal

abbrev pub invariant-loop-index : goal.invariant-loop-index
invariant-loop-index l =
    first_from l.index l.rip (drop l.index l.views) ≡ first_from 0 l.rip l.views
