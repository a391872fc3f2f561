use Rattle.std.proofs.Common.{◌≡◌, ◌++◌, replicate}
use Rattle.linear_code.specs.declared.instruction.Instruction.TheVariants.{Separator}
use Rattle.seh_ir.proofs.lower.put_separators.Given as goal

abbrev pub invariant-loop : goal.invariant-loop
invariant-loop l = l.code.items ≡ l.initial.code.items ++ replicate l.counter Separator
