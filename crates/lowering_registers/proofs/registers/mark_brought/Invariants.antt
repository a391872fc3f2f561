use Rattle.std.proofs.Common.{◌≡◌, drop}
use Rattle.lowering_registers.specs.Marks as spec
use Rattle.lowering_registers.proofs.registers.mark_brought.Given as goal

abbrev pub invariant-loop-parameter : goal.invariant-loop-parameter
invariant-loop-parameter l = spec.with_brought
    (drop l.parameter-index l.parameters) l.marks.items
    ≡ spec.with_brought l.parameters l.initial.marks.items
