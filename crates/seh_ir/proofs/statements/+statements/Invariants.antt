use Rattle.std.proofs.Common.{◌≡◌, ℕ, List, ◌++◌, map, take, drop, length}
use Rattle.c_checked.specs.Statement as tree
use Rattle.lowering_sizes.specs.Parts.{with_all_parts}
use Rattle.seh_ir.specs.Statements as spec
use Rattle.seh_ir.proofs.statements.+statements.Given as goal

abbrev pub invariant-statements_by_size-loop-stmt : goal.invariant-statements_by_size-loop-stmt
invariant-statements_by_size-loop-stmt l = (rest : List ℕ) → l.initial.sizes.items
    ≡ with_all_parts (tree.statements (map tree.statement l.stmts)) rest
    → (l.code.items ≡ l.initial.code.items ++ spec.statements_code l.scope
    (tree.statements (map tree.statement (take l.stmt-index l.stmts)))
    (length l.initial.code.items))
    × (l.sizes.items ≡ with_all_parts
    (tree.statements (map tree.statement (drop l.stmt-index l.stmts))) rest)
