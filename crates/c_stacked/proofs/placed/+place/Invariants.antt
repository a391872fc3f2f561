use Rattle.std.proofs.Common.{◌≡◌, ℕ, ◌<◌, get_or}
use Rattle.c_checked.specs.declared.expression.Expr.{Expr}
use Rattle.c_checked.specs.Expression.{expression}
use Rattle.c_resolved.specs.Placed.{place_expression}
use Rattle.c_stacked.specs.Views.{layout}
use Rattle.c_stacked.proofs.placed.+place.Given as goal

abbrev pub invariant-place_arguments-loop-argument : goal.invariant-place_arguments-loop-argument
invariant-place_arguments-loop-argument l = goal.unvisited-place_arguments-loop-argument l
    × ((k : ℕ) (d : Expr) → k < l.argument-index → expression (get_or l.arguments k d)
    ≡ place_expression (layout l.places) (expression (get_or l.initial.arguments k d)))
