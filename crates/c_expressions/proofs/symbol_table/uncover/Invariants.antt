use Rattle.std.proofs.Common.{◌≡◌, length}
use Rattle.c_expressions.proofs.symbol_table.uncover.Given as goal
use Rattle.c_expressions.specs.Declarations.{Uncovers}
use Rattle.indexmap.specs.IndexMap as maps

abbrev pub invariant-loop-last : goal.invariant-loop-last
invariant-loop-last l =
    Uncovers l.initial.index.entries l.index.entries l.fn.block.items l.left.items
    × (maps.hasher_of l.index ≡ maps.hasher_of l.initial.index)

abbrev pub decreases-loop-last : goal.decreases-loop-last
decreases-loop-last l = length l.left.items
