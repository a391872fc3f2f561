use Rattle.std.proofs.Common.{◌≡◌, map, drop}
use Rattle.c_checked.specs.Statement as tree
use Rattle.seh_ir.specs.ColdParts as spec
use Rattle.seh_ir.proofs.cold_parts.+tries.Given as goal

abbrev pub invariant-statements_try-loop-stmt : goal.invariant-statements_try-loop-stmt
invariant-statements_try-loop-stmt l =
    spec.statements_try (tree.statements (map tree.statement l.stmts))
    ≡ spec.statements_try (tree.statements (map tree.statement (drop l.stmt-index l.stmts)))
