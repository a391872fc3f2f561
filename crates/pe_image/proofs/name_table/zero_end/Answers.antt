use Rattle.std.proofs.Common.{arith}
use Rattle.pe_image.proofs.NameRows.{zeros_before}
use Rattle.pe_image.proofs.name_table.zero_end.Goals as goal

pub returns-then-bytes-end-eq0-clause-zeros : goal.returns-then-bytes-end-eq0-clause-zeros
returns-then-bytes-end-eq0-clause-zeros c =
    let i = c.loop-end.invariant in
    zeros_before c.args.bytes.now c.loop-end.end i.1 (λ lt. (i.0, c.if-bytes-end-eq0.true))

pub returns-clause-zeros : goal.returns-clause-zeros
returns-clause-zeros c =
    let i = c.loop-end.invariant in
    zeros_before c.args.bytes.now 0 (λ k le lt z. i.1 k (omega arith) lt z)
    (λ lt. absurd (omega arith))
