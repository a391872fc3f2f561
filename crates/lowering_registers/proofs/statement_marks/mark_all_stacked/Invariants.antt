use Rattle.std.proofs.Common.{◌≡◌, map, drop}
use Rattle.c_checked.specs.Statement as statements
use Rattle.lowering_registers.specs.Marks as spec
use Rattle.lowering_registers.proofs.statement_marks.mark_all_stacked.Given as goal

abbrev pub invariant-loop-one : goal.invariant-loop-one
invariant-loop-one l = spec.with_all_stacked
    (map statements.declared (drop l.one-index l.declared)) l.marks.items
    ≡ spec.with_all_stacked (map statements.declared l.declared) l.initial.marks.items
