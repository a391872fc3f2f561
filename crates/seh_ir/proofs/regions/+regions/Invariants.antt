use Rattle.std.proofs.Common.{◌≡◌, ◌+◌, ◌++◌, map, take}
use Rattle.c_checked.specs.Statement as tree
use Rattle.lowering_sizes.specs.Sizes as sizes
use Rattle.seh_ir.specs.Regions as spec
use Rattle.seh_ir.proofs.regions.+regions.Given as goal

abbrev pub invariant-statements_regions-loop-stmt : goal.invariant-statements_regions-loop-stmt
invariant-statements_regions-loop-stmt l =
    (l.place ≡ l.at + sizes.statements_size (tree.statements
    (map tree.statement (take l.stmt-index l.stmts))))
    × (l.regions.items ≡ l.initial.regions.items
    ++ spec.statements_regions (tree.statements (map tree.statement (take l.stmt-index l.stmts)))
    l.at)
