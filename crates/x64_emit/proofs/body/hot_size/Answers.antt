use Rattle.std.proofs.Common.{arith}
use Rattle.template_code.proofs.ColdParts.{sides_sum}
use Rattle.x64_emit.proofs.body.hot_size.Goals as goal

pub overflow_sub-result : goal.overflow_sub-result
overflow_sub-result c =
    let s = sides_sum c.args.layout.now c.args.parts.now 0 c.args.body.now in
    let a = c.in_ok-all.ensures in
    let b = c.in_ok-cold.ensures in
    omega arith

pub returns : goal.returns
returns c =
    let s = sides_sum c.args.layout.now c.args.parts.now 0 c.args.body.now in
    let a = c.in_ok-all.ensures in
    let b = c.in_ok-cold.ensures in
    omega arith
