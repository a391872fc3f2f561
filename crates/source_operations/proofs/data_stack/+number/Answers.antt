use Rattle.std.proofs.Common.{arith}
use Rattle.x64_memory.specs.PageMaps.{memory_of}
use Rattle.x64_memory.proofs.Steps.{number_at-more, digit_more, pow_at_most}
use Rattle.source_operations.proofs.DataStack.{number_none}
use Rattle.source_operations.proofs.data_stack.+number.Goals as goal

pub returns-then-count-eq0-clause-value : goal.returns-then-count-eq0-clause-value
returns-then-count-eq0-clause-value t c =
    number_none (memory_of c.args.space.now).byte c.args.count c.args.at c.if-count-eq0.true

pub overflow_mul-result : goal.overflow_mul-result
overflow_mul-result t c =
    let d = digit_more c.args.count 0 c.number-rest.result (omega arith) (omega arith)
    c.number-rest.ensures.small in
    omega (arith, pow_at_most c.args.count (omega arith))

pub overflow_add-result : goal.overflow_add-result
overflow_add-result t c =
    let d = digit_more c.args.count c.from.result c.number-rest.result (omega arith) (omega arith)
    c.number-rest.ensures.small in
    omega (arith, pow_at_most c.args.count (omega arith))

pub returns-clause-value : goal.returns-clause-value
returns-clause-value t c =
    let more = number_at-more (memory_of c.args.space.now).byte c.args.count c.args.at (omega arith)
    in
    cc

pub returns-clause-small : goal.returns-clause-small
returns-clause-small t c =
    digit_more c.args.count c.from.result c.number-rest.result (omega arith) (omega arith)
    c.number-rest.ensures.small
