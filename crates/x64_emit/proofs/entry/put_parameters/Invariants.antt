use Rattle.std.proofs.Common.{◌≡◌, ◌++◌, ◌-◌}
use Rattle.x64_emit.specs.Words.{spelled, parameters_code}
use Rattle.x64_emit.proofs.entry.put_parameters.Given as goal

abbrev pub invariant-loop-index : goal.invariant-loop-index
invariant-loop-index l = l.code.items ++ spelled
    (parameters_code l.layout l.index (l.count - l.index))
    ≡ l.fn.code.items ++ spelled (parameters_code l.layout 0 l.count)
