use Rattle.std.proofs.Common.{◌≡◌, ◌++◌, map, take, length}
use Rattle.c_checked.specs.Statement as tree
use Rattle.seh_ir.specs.Statements as spec
use Rattle.seh_ir.proofs.declarations.declare_all.Given as goal

abbrev pub invariant-loop-one : goal.invariant-loop-one
invariant-loop-one l = l.code.items ≡ l.initial.code.items
    ++ spec.all_declared_code l.names (map tree.declared (take l.one-index l.declared))
    (length l.initial.code.items)
