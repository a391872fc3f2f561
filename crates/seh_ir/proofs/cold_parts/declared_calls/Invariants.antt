use Rattle.std.proofs.Common.{◌≡◌, map, drop}
use Rattle.c_checked.specs.Statement as tree
use Rattle.seh_ir.specs.ColdParts as spec
use Rattle.seh_ir.proofs.cold_parts.declared_calls.Given as goal

abbrev pub invariant-loop-one : goal.invariant-loop-one
invariant-loop-one l = spec.declared_calls (map tree.declared l.declared)
    ≡ spec.declared_calls (map tree.declared (drop l.one-index l.declared))
