use Rattle.std.proofs.Common.{◌≡◌, ◌++◌, drop}
use Rattle.eh_write.specs.Words.{codes_bytes}
use Rattle.eh_write.proofs.writing.codes_bytes.Given as goal

abbrev pub invariant-loop-code : goal.invariant-loop-code
invariant-loop-code l = l.out.items ++ codes_bytes (drop l.code-index l.codes) ≡ codes_bytes l.codes
