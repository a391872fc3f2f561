use Rattle.std.proofs.Common.{◌≡◌, ◌+◌, map, take}
use Rattle.c_checked.specs.Expression as tree
use Rattle.lowering_sizes.specs.Sizes as spec
use Rattle.lowering_sizes.proofs.sizes.+sizes.Given as goal

abbrev pub invariant-call_size-loop-argument : goal.invariant-call_size-loop-argument
invariant-call_size-loop-argument l = l.total
    ≡ spec.arguments_size (tree.arguments (map tree.expression (take l.argument-index l.arguments)))
    + 1
