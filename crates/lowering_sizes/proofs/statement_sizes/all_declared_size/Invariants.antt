use Rattle.std.proofs.Common.{◌≡◌, map, take}
use Rattle.c_checked.specs.Statement as tree
use Rattle.lowering_sizes.specs.Sizes as spec
use Rattle.lowering_sizes.proofs.statement_sizes.all_declared_size.Given as goal

abbrev pub invariant-loop-one : goal.invariant-loop-one
invariant-loop-one l = l.total ≡ spec.all_declared_size
    (map tree.declared (take l.one-index l.declared))
