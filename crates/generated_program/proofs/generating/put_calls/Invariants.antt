use Rattle.std.proofs.Common.{◌≡◌, ◌++◌}
use Rattle.generated_program.specs.GeneratedText.{call, for_each}
use Rattle.generated_program.proofs.generating.put_calls.Given as goal

abbrev pub invariant-loop-k : goal.invariant-loop-k
invariant-loop-k l = l.text.items ≡ l.fn.text.items ++ for_each call l.k
