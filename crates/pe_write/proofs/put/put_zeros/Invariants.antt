use Rattle.std.proofs.Common.{◌≡◌, ◌++◌}
use Rattle.pe_image.specs.Numbers.{zeros}
use Rattle.pe_write.proofs.put.put_zeros.Given as goal

abbrev pub invariant-loop-i : goal.invariant-loop-i
invariant-loop-i l = l.out.items ≡ l.initial.out.items ++ zeros l._i
