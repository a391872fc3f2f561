use Rattle.std.proofs.Common.{◌≡◌, ◌++◌, map, take}
use Rattle.c_checked.specs.Statement as tree
use Rattle.seh_ir.specs.Words.{linear_funclet}
use Rattle.seh_ir.specs.Funclets as spec
use Rattle.seh_ir.proofs.funclets.+funclets.Given as goal

abbrev pub invariant-statements_funclets-loop-stmt : goal.invariant-statements_funclets-loop-stmt
invariant-statements_funclets-loop-stmt l =
    map linear_funclet l.funclets.items ≡ map linear_funclet l.initial.funclets.items
    ++ spec.statements_funclets l.owner l.names
    (tree.statements (map tree.statement (take l.stmt-index l.stmts)))
