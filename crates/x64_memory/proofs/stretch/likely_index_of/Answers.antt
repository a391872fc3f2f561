use Rattle.std.proofs.Common.{sym, arith}
use Rattle.x64_memory.proofs.Ordered.{found_at, index_in}
use Rattle.x64_memory.proofs.stretch.likely_index_of.Goals as goal

pub overflow_add-result : goal.overflow_add-result
overflow_add-result c =
    let at = found_at 0 0 c.args.stretches.now c.args.number c.args.likely
    (record { first = 0; end = 0; index = 0 }) c.requires.ordered (omega arith) (omega arith)
    (omega arith) in
    let in' = (index_in 0 0 c.args.stretches.now c.args.number _ c.requires.ordered at).1 in
    omega (arith, in')

pub returns-clause-value : goal.returns-clause-value
returns-clause-value c = sym (found_at 0 0 c.args.stretches.now c.args.number c.args.likely
    (record { first = 0; end = 0; index = 0 }) c.requires.ordered (omega arith) (omega arith)
    (omega arith))

pub returns-clause-within : goal.returns-clause-within
returns-clause-within c =
    let at = found_at 0 0 c.args.stretches.now c.args.number c.args.likely
    (record { first = 0; end = 0; index = 0 }) c.requires.ordered (omega arith) (omega arith)
    (omega arith) in
    (index_in 0 0 c.args.stretches.now c.args.number _ c.requires.ordered at).1
