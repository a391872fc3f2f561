use Rattle.std.proofs.Common.{◌≡◌, ◌++◌}
use Rattle.unwind_check.proofs.entry.ordered_codes.Given as goal

abbrev pub invariant-loop-code : goal.invariant-loop-code
invariant-loop-code l = record {
  can : goal.iterator-loop-code.can_next l.code-iterator;
  ends : goal.iterator-loop-code.is_finite l.code-iterator;
  codes : l.codes.items ++ l.code-iterator ≡ l.info.codes;
  steps : l.steps.items ++ l.code-iterator ≡ l.info.codes;
}
