use Rattle.std.proofs.Common.{◌≡◌, map, take}
use Rattle.c_checked.specs.Statement as tree
use Rattle.lowering_sizes.specs.Sizes as spec
use Rattle.lowering_sizes.proofs.statement_sizes.declared_notes.Given as goal

abbrev pub invariant-loop-one : goal.invariant-loop-one
invariant-loop-one l = l.most
    ≡ spec.declared_notes (map tree.declared (take l.one-index l.declared))
