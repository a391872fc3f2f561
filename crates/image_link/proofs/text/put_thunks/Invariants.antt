use Rattle.std.proofs.Common.{◌≡◌, ◌++◌, map, drop}
use Rattle.image_link.specs.Words.{spelled, service_thunk}
use Rattle.image_link.proofs.text.put_thunks.Given as goal

abbrev pub invariant-loop-service : goal.invariant-loop-service
invariant-loop-service l =
    l.code.items
    ++ spelled (map (service_thunk l.imports l.text l.rdata) (drop l.service-index l.imports))
    ≡ l.initial.code.items
    ++ spelled (map (service_thunk l.imports l.text l.rdata) l.imports)
