use Rattle.std.proofs.Common.{◌≡◌, ◌≤◌, drop, length, map}
use Rattle.std.specs.Prelude.{option_map}
use Rattle.c_checked.specs.Expression as nodes
use Rattle.c_expressions.proofs.Calling.{StillToPass}
use Rattle.c_expressions.proofs.expressions.+expressions.Given as goal
use Rattle.c_expressions.specs.Words.{resolved_all, least_of, kept, names_of, wanted, pass_all, faults_of}

abbrev pub invariant-pass_all-loop-e : goal.invariant-pass_all-loop-e
invariant-pass_all-loop-e l =
    (l.i ≡ l.e-index) × (l.i ≤ length l.wants)
    × StillToPass (names_of l.context) (least_of l.initial.faults)
    (pass_all (map wanted l.wants) (resolved_all (names_of l.context) l.given))
    (option_map (λ v. map nodes.expression v.items) l.passed) (least_of l.faults)
    (drop l.e-index l.wants) (drop l.e-index l.given)

abbrev pub invariant-resolve_all-loop-e : goal.invariant-resolve_all-loop-e
invariant-resolve_all-loop-e l =
    kept (least_of l.initial.faults) (faults_of (resolved_all (names_of l.context) l.given))
    ≡ kept (least_of l.faults) (faults_of (resolved_all (names_of l.context)
    (drop l.e-index l.given)))
