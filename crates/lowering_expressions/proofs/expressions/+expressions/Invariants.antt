use Rattle.std.proofs.Common.{◌≡◌, ◌+◌, ◌++◌, map, take, length}
use Rattle.c_checked.specs.Expression as tree
use Rattle.lowering_expressions.specs.Expressions as spec
use Rattle.lowering_expressions.proofs.expressions.+expressions.Given as goal

abbrev pub invariant-arguments-loop-arg : goal.invariant-arguments-loop-arg
invariant-arguments-loop-arg l =
    (l.next ≡ l.d + l.arg-index)
    × (l.code.items ≡ l.initial.code.items ++ spec.arguments_code l.names
    (tree.arguments (map tree.expression (take l.arg-index l.args))) l.d
    (length l.initial.code.items))
