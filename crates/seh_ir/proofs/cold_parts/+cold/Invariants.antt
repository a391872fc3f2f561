use Rattle.std.proofs.Common.{◌≡◌, ◌+◌, ◌++◌, map, take}
use Rattle.c_checked.specs.Statement as tree
use Rattle.lowering_sizes.specs.Sizes as sizes
use Rattle.seh_ir.specs.ColdParts as spec
use Rattle.seh_ir.proofs.cold_parts.+cold.Given as goal

abbrev pub invariant-statements_cold-loop-stmt : goal.invariant-statements_cold-loop-stmt
invariant-statements_cold-loop-stmt l =
    (l.place ≡ l.at + sizes.statements_size (tree.statements
    (map tree.statement (take l.stmt-index l.stmts))))
    × (l.cold.items ≡ l.initial.cold.items
    ++ spec.statements_cold (tree.statements (map tree.statement (take l.stmt-index l.stmts)))
    l.at)
