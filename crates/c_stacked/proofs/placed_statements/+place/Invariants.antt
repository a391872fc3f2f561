use Rattle.std.proofs.Common.{◌≡◌, ℕ, ◌<◌, get_or}
use Rattle.c_checked.specs.declared.statement.Stmt.{Stmt}
use Rattle.c_checked.specs.Statement.{statement}
use Rattle.c_resolved.specs.Placed.{place_statement}
use Rattle.c_stacked.specs.Views.{layout}
use Rattle.c_stacked.proofs.placed_statements.+place.Given as goal

abbrev pub invariant-place_statements-loop-stmt : goal.invariant-place_statements-loop-stmt
invariant-place_statements-loop-stmt l = goal.unvisited-place_statements-loop-stmt l
    × ((k : ℕ) (d : Stmt) → k < l.stmt-index → statement (get_or l.stmts k d)
    ≡ place_statement (layout l.places) (statement (get_or l.initial.stmts k d)))
