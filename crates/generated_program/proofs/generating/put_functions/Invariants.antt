use Rattle.std.proofs.Common.{◌≡◌, ◌++◌}
use Rattle.generated_program.specs.GeneratedText.{for_each, function}
use Rattle.generated_program.proofs.generating.put_functions.Given as goal

abbrev pub invariant-loop-k : goal.invariant-loop-k
invariant-loop-k l = l.text.items ≡ l.fn.text.items ++ for_each (function l.n) l.k
