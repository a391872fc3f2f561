use Rattle.std.proofs.Common.{sym, arith}
use Rattle.x64_memory.proofs.Ordered.{all_ended, found, found_none, index_in}
use Rattle.x64_memory.proofs.stretch.index_of.Goals as goal

pub returns-then-ended-stretches-clause-value : goal.returns-then-ended-stretches-clause-value
returns-then-ended-stretches-clause-value c = sym
    (all_ended c.args.stretches.now c.args.number
    (λ m d lt. c.count_ended-ended.ensures.below m d (omega arith)))

pub returns-then-number-stretch-clause-value : goal.returns-then-number-stretch-clause-value
returns-then-number-stretch-clause-value c =
    let j = c.count_ended-ended.result in
    let later = c.count_ended-ended.ensures.later j (record { first = 0; end = 0; index = 0 })
    (omega arith) c.if-ended-stretches.false in
    sym (found_none 0 0 c.args.stretches.now c.args.number j
    (record { first = 0; end = 0; index = 0 }) c.requires.ordered c.count_ended-ended.ensures.below
    c.if-ended-stretches.false later c.if-number-stretch.true)

pub overflow_add-result : goal.overflow_add-result
overflow_add-result c =
    let j = c.count_ended-ended.result in
    let later = c.count_ended-ended.ensures.later j (record { first = 0; end = 0; index = 0 })
    (omega arith) c.if-ended-stretches.false in
    let at = found 0 0 c.args.stretches.now c.args.number j
    (record { first = 0; end = 0; index = 0 }) c.requires.ordered c.count_ended-ended.ensures.below
    c.if-ended-stretches.false later c.if-number-stretch.false in
    let in' = (index_in 0 0 c.args.stretches.now c.args.number _ c.requires.ordered at).1 in
    omega (arith, in')

pub returns-clause-value : goal.returns-clause-value
returns-clause-value c =
    let j = c.count_ended-ended.result in
    let later = c.count_ended-ended.ensures.later j (record { first = 0; end = 0; index = 0 })
    (omega arith) c.if-ended-stretches.false in
    sym (found 0 0 c.args.stretches.now c.args.number j (record { first = 0; end = 0; index = 0 })
    c.requires.ordered c.count_ended-ended.ensures.below c.if-ended-stretches.false later
    c.if-number-stretch.false)

pub returns-clause-within : goal.returns-clause-within
returns-clause-within c =
    let j = c.count_ended-ended.result in
    let later = c.count_ended-ended.ensures.later j (record { first = 0; end = 0; index = 0 })
    (omega arith) c.if-ended-stretches.false in
    let at = found 0 0 c.args.stretches.now c.args.number j
    (record { first = 0; end = 0; index = 0 }) c.requires.ordered c.count_ended-ended.ensures.below
    c.if-ended-stretches.false later c.if-number-stretch.false in
    (index_in 0 0 c.args.stretches.now c.args.number _ c.requires.ordered at).1
