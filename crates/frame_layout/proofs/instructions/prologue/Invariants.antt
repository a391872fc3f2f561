use Rattle.std.proofs.Common.{◌≡◌, ◌++◌, drop}
use Rattle.std.specs.List.{flat_map}
use Rattle.frame_rules.specs.Plan.{instructions_of}
use Rattle.frame_rules.specs.Bytes.{prologue_code}
use Rattle.frame_layout.specs.Plans.{plan_of}
use Rattle.frame_layout.proofs.instructions.prologue.Given as goal

abbrev pub invariant-loop-operation : goal.invariant-loop-operation
invariant-loop-operation l =
    l.instrs.items ++ flat_map (instructions_of (plan_of l.frame l.probe))
    (drop l.operation-index l.operation-items)
    ≡ prologue_code (plan_of l.frame l.probe)
