use Rattle.std.proofs.Common.{arith}
use Rattle.x64_instr.proofs.Numbers.{digit_more, pow_at_most}
use Rattle.x64_instr.proofs.reading.+number.Goals as goal

pub overflow_mul-result : goal.overflow_mul-result
overflow_mul-result t c =
    let d = digit_more c.args.count 0 c.in_ok-high.high (omega arith) (omega arith)
    c.in_ok-high.ensures.small in
    omega (arith, pow_at_most c.args.count (omega arith))

pub overflow_add-result : goal.overflow_add-result
overflow_add-result t c =
    let d = digit_more c.args.count c.in_ok-low.low c.in_ok-high.high (omega arith)
    c.in_ok-low.ensures.small c.in_ok-high.ensures.small in
    omega (arith, pow_at_most c.args.count (omega arith))

pub returns-clause-small : goal.returns-clause-small
returns-clause-small t c = digit_more c.args.count c.in_ok-low.low c.in_ok-high.high (omega arith)
    c.in_ok-low.ensures.small c.in_ok-high.ensures.small
