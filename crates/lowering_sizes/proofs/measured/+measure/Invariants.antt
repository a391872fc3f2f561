use Rattle.std.proofs.Common.{◌≡◌, ◌≤◌, length, map, drop}
use Rattle.c_checked.specs.Statement as tree
use Rattle.lowering_sizes.specs.Parts as spec
use Rattle.lowering_sizes.specs.Sizes as sizes
use Rattle.lowering_sizes.proofs.measured.+measure.Given as goal

abbrev pub invariant-measure_all-loop-left : goal.invariant-measure_all-loop-left
invariant-measure_all-loop-left l =
    (l.left ≤ length l.stmts)
    × (l.total ≡ sizes.statements_size (tree.statements (map tree.statement (drop l.left l.stmts))))
    × (l.parts.items ≡ spec.with_all_parts
    (tree.statements (map tree.statement (drop l.left l.stmts))) l.initial.parts.items)

abbrev pub decreases-measure_all-loop-left : goal.decreases-measure_all-loop-left
decreases-measure_all-loop-left l = l.left
