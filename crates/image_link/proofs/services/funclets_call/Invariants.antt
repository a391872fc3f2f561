use Rattle.std.proofs.Common.{◌≡◌, drop, map}
use Rattle.image_link.specs.Words.{linear_funclet, funclets_call}
use Rattle.image_link.proofs.services.funclets_call.Given as goal

abbrev pub invariant-loop-funclet : goal.invariant-loop-funclet
invariant-loop-funclet l =
    funclets_call l.service (map linear_funclet (drop l.funclet-index l.funclets))
    ≡ funclets_call l.service (map linear_funclet l.funclets)
