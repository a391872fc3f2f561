use Rattle.std.proofs.Common.{◌≡◌, map, take}
use Rattle.c_checked.specs.Statement as tree
use Rattle.lowering_sizes.specs.Sizes as spec
use Rattle.lowering_sizes.proofs.statement_sizes.+notes.Given as goal

abbrev pub invariant-statements_notes-loop-stmt : goal.invariant-statements_notes-loop-stmt
invariant-statements_notes-loop-stmt l = l.most
    ≡ spec.statements_notes (tree.statements (map tree.statement (take l.stmt-index l.stmts)))
