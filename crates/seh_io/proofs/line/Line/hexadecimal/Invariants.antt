use Rattle.std.proofs.Common.{◌≡◌, ◌-◌, ◌*◌, ◌/◌, ◌^◌, ◌++◌}
use Rattle.seh_io.specs.Text.{hexadecimal}
use Rattle.seh_io.proofs.line.Line.hexadecimal.Given as goal

abbrev pub invariant-loop-place : goal.invariant-loop-place
invariant-loop-place l = l.self ≡ l.initial.self
    ++ hexadecimal (l.digits - l.place) (l.n / 2 ^ (4 * l.place))
