use Rattle.std.specs.Prelude.{Bool, ℕ}
use Rattle.std.proofs.Common.{◌≡◌, ◌-◌}
use Rattle.flat_memory.specs.Memory.{first_refused}
use Rattle.x64_memory.specs.PageMaps.{memory_of}
use Rattle.source_operations.specs.Reserved.{reserved_below, may_place}
use Rattle.source_operations.proofs.data_stack.first_unplaceable.Given as goal

abbrev pub invariant-loop-i : goal.invariant-loop-i
invariant-loop-i l =
    let may : ℕ → Bool = may_place (reserved_below l.data_end) (memory_of l.space) in
    first_refused may (l.count - l._i) l.here ≡ first_refused may l.count l.at
