use Rattle.std.proofs.Common.{◌≡◌, map, drop}
use Rattle.c_checked.specs.Statement as statements
use Rattle.lowering_registers.specs.Marks as spec
use Rattle.lowering_registers.proofs.statement_marks.+naming.Given as goal

abbrev pub invariant-mark_statements-loop-stmt : goal.invariant-mark_statements-loop-stmt
invariant-mark_statements-loop-stmt l = spec.with_statements
    (statements.statements (map statements.statement (drop l.stmt-index l.stmts))) l.marks.items
    ≡ spec.with_statements (statements.statements (map statements.statement l.stmts))
    l.initial.marks.items
