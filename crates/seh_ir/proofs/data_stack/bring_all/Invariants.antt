use Rattle.std.proofs.Common.{◌≡◌, ◌++◌, drop}
use Rattle.seh_ir.specs.Lowered as spec
use Rattle.seh_ir.proofs.data_stack.bring_all.Given as goal

abbrev pub invariant-loop-parameter : goal.invariant-loop-parameter
invariant-loop-parameter l = l.code.items
    ++ spec.bring_code l.base (drop l.parameter-index l.parameters)
    ≡ l.initial.code.items ++ spec.bring_code l.base l.parameters
