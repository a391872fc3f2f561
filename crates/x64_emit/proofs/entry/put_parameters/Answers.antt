use Rattle.std.proofs.Common.{◌+◌, ◌-◌}
use Rattle.x64_emit.specs.Words.{parameter_code, parameters_code}
use Rattle.x64_emit.proofs.Nearby.{stepped, parameters_next}
use Rattle.x64_emit.proofs.entry.put_parameters.Goals as goal

pub loop-index-preserved : goal.loop-index-preserved
loop-index-preserved c =
    let y = c.args.layout.now in
    let i = c.loop-index.index in
    stepped c.loop-index.code.items c.put_parameter.new.code.items _ (parameter_code y i)
    (parameters_code y (i + 1) (c.args.count - (i + 1))) _ c.in_ok-put_parameter.ensures
    (parameters_next y i c.args.count c.loop-index-test.true) c.loop-index.invariant
