use Rattle.std.proofs.Common.{◌≡◌, map, drop}
use Rattle.c_checked.specs.Expression as tree
use Rattle.lowering_registers.specs.Marks as spec
use Rattle.lowering_registers.proofs.expression_marks.+marking.Given as goal

abbrev pub invariant-mark_arguments-loop-argument : goal.invariant-mark_arguments-loop-argument
invariant-mark_arguments-loop-argument l = spec.with_arguments
    (tree.arguments (map tree.expression (drop l.argument-index l.arguments))) l.marks.items
    ≡ spec.with_arguments (tree.arguments (map tree.expression l.arguments)) l.initial.marks.items
