use Rattle.std.proofs.Common.{Ok, ◌*◌, ◌+◌, ◌-◌, ap, ◌∙◌, arith}
use Rattle.x64_memory.proofs.Steps.{refused_number-zero, refused_number-here, refused_number-later, refused_number-more, digit_more, pow_at_most}
use Rattle.x64_memory.proofs.paged.+spread_number.Goals as goal

pub returns-then-count-eq0-clause-value : goal.returns-then-count-eq0-clause-value
returns-then-count-eq0-clause-value g t c = refused_number-zero
    (g.P.ReadPages.memory c.args.space.now) c.args.count c.args.at c.if-count-eq0.true

pub returns-in-None-clause-value : goal.returns-in-None-clause-value
returns-in-None-clause-value g t c = refused_number-here (g.P.ReadPages.memory c.args.space.now)
    c.args.count c.args.at (omega arith) c.in-None.ensures

pub returns-in-Err-clause-value : goal.returns-in-Err-clause-value
returns-in-Err-clause-value g t c = refused_number-later (g.P.ReadPages.memory c.args.space.now)
    c.args.count (c.args.count - 1) c.args.at c.in-Some.low c.in-Err.address (omega arith)
    c.in-Some.ensures c.in-Err.ensures.value

pub overflow_mul-result : goal.overflow_mul-result
overflow_mul-result g t c =
    let d = digit_more c.args.count 0 c.in-Ok.high (omega arith) (omega arith)
    c.in-Ok.ensures.small in
    omega (arith, pow_at_most c.args.count (omega arith))

pub overflow_add-result : goal.overflow_add-result
overflow_add-result g t c =
    let d = digit_more c.args.count c.from.result c.in-Ok.high (omega arith) (omega arith)
    c.in-Ok.ensures.small in
    omega (arith, pow_at_most c.args.count (omega arith))

pub returns-in-Ok-clause-value : goal.returns-in-Ok-clause-value
returns-in-Ok-clause-value g t c =
    ap (λ b. Ok (b + 256 * c.in-Ok.high)) c.from.ensures
    ∙ refused_number-more (g.P.ReadPages.memory c.args.space.now) c.args.count (c.args.count - 1)
    c.args.at c.in-Some.low c.in-Ok.high (omega arith) c.in-Some.ensures c.in-Ok.ensures.value

pub returns-in-Ok-clause-small : goal.returns-in-Ok-clause-small
returns-in-Ok-clause-small g t c = digit_more c.args.count c.from.result c.in-Ok.high (omega arith)
    (omega arith) c.in-Ok.ensures.small
