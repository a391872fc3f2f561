use Rattle.std.proofs.Common.{◌<◌, ◌≤◌, length, ap, arith}
use Rattle.c_check.proofs.ParametersInOrder.{next_at, still_around, parameters_on, parameters_end}
use Rattle.c_check.proofs.parameters.declare_all.Goals as goal
use Rattle.c_check.specs.Words.{SymbolTable, least_of}

pub loop-i-preserved : goal.loop-i-preserved
loop-i-preserved c =
    let list = c.args.list.now in
    let start = c.args.names.now in
    let t = c.loop-i.names in
    let one = c.in_ok-parameter.ensures in
    let below : c.loop-i.i < length list = omega arith in (
      still_around start t c.parameter.new.names _ one.names c.loop-i.invariant.0,
      parameters_on c.args.text.now list c.loop-i.i _ t.block c.parameter.new.names.block
          (least_of c.args.faults.now) (least_of c.loop-i.faults)
          (least_of c.parameter.new.faults) (next_at list c.loop-i.i _ below)
          (ap (λ (k : SymbolTable). k.block) one.names) one.faults c.loop-i.invariant.1,
    )

pub returns-clause-names : goal.returns-clause-names
returns-clause-names c =
    let list = c.args.list.now in
    let past : length list ≤ c.loop-i.i = omega arith in
    (parameters_end c.args.text.now list c.loop-i.i c.args.names.now c.loop-i.names
    (least_of c.args.faults.now) (least_of c.loop-i.faults) past c.loop-i.invariant.0
    c.loop-i.invariant.1).0
