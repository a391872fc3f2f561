use Rattle.std.proofs.Common.{◌≡◌, ◌++◌, ◌-◌}
use Rattle.x64_emit.specs.Words.{spelled, passing_code}
use Rattle.x64_emit.proofs.calls.put_passing.Given as goal

abbrev pub invariant-loop-i : goal.invariant-loop-i
invariant-loop-i l = l.code.items ++ spelled (passing_code l.layout l.first l.i (l.count - l.i))
    ≡ l.fn.code.items ++ spelled (passing_code l.layout l.first 4 (l.count - 4))
