use Rattle.std.proofs.Common.{◌≡◌, map, take}
use Rattle.c_checked.specs.Program as programs
use Rattle.seh_ir.specs.Words.{linear_function, linear_funclet}
use Rattle.seh_ir.specs.Lowered as spec
use Rattle.seh_ir.proofs.lower.lower.Given as goal

abbrev pub invariant-loop-f : goal.invariant-loop-f
invariant-loop-f l =
    (l.number ≡ l.f-index)
    × (map linear_function l.functions.items ≡ map spec.lowered_function
    (map programs.function (take l.f-index l.checked.functions.items)))
    × (map linear_funclet l.funclets.items ≡ spec.all_funclets 0
    (map programs.function (take l.f-index l.checked.functions.items)))
