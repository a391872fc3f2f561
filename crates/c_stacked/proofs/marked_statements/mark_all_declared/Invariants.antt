use Rattle.std.proofs.Common.{◌≡◌}
use Rattle.c_stacked.proofs.Walked.{DeclaredLeft}
use Rattle.c_stacked.proofs.marked_statements.mark_all_declared.Given as goal

abbrev pub invariant-loop-one : goal.invariant-loop-one
invariant-loop-one l = DeclaredLeft l.declared l.one-index l.marks
    ≡ DeclaredLeft l.declared 0 l.initial.marks
