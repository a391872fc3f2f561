use Rattle.std.specs.Prelude.{not, Bool, ℕ}
use Rattle.std.proofs.Common.{◌≡◌, ◌-◌}
use Rattle.flat_memory.specs.Memory.{first_refused}
use Rattle.source_operations.specs.Reserved.{reserved_below}
use Rattle.source_operations.proofs.reserved.first_reserved.Given as goal

abbrev pub invariant-loop-i : goal.invariant-loop-i
invariant-loop-i l =
    let may : ℕ → Bool = λ a. not (reserved_below l.data_end a) in
    first_refused may (l.count - l._i) l.here ≡ first_refused may l.count l.at
