use Rattle.std.proofs.Common.{◌≡◌, ℕ, ◌≤◌, ◌<◌, get_or, length}
use Rattle.c_checked.specs.declared.statement.Declared.{Declared}
use Rattle.c_checked.specs.Statement.{declared}
use Rattle.c_resolved.specs.Placed.{place_declared}
use Rattle.c_stacked.specs.Views.{layout}
use Rattle.c_stacked.proofs.placed_statements.place_all_declared.Given as goal

abbrev pub invariant-loop-one : goal.invariant-loop-one
invariant-loop-one l = ((length l.declared ≡ length l.initial.declared)
    × ((k : ℕ) (d : Declared) → l.one-index ≤ k
    → get_or l.declared k d ≡ get_or l.initial.declared k d))
    × ((k : ℕ) (d : Declared) → k < l.one-index → declared (get_or l.declared k d)
    ≡ place_declared (layout l.places) (declared (get_or l.initial.declared k d)))
