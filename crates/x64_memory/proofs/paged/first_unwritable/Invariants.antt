use Rattle.std.proofs.Common.{◌≡◌, ◌-◌}
use Rattle.x64_memory.specs.Words.{may_write, first_refused}
use Rattle.x64_memory.proofs.paged.first_unwritable.Given as goal

abbrev pub invariant-loop-i : goal.invariant-loop-i
invariant-loop-i g l =
    let may = may_write (g.P.ReadPages.memory l.space) in
    first_refused may (l.count - l._i) l.here ≡ first_refused may l.count l.at
