use Rattle.std.proofs.Common.{arith}
use Rattle.seh_io.proofs.Writers.{wrote_nothing, wrote_part}
use Rattle.seh_io.proofs.receiver.Lines.put.Goals as goal

pub returns-then-self-clause-wrote : goal.returns-then-self-clause-wrote
returns-then-self-clause-wrote g c = wrote_nothing _ c.args.piece.now c.if-self.true

pub returns-in-Err-clause-wrote : goal.returns-in-Err-clause-wrote
returns-in-Err-clause-wrote g c =
    rw c.if-self.false
    (wrote_part _ _ _ _ _ _ _ c.in-Err.fault.taken (omega (arith, c.in-Err.ensures.short))
    c.in-Err.ensures.part c.in-Err.ensures.cause
    c.saturating_add-self-in-Err.ensures)
