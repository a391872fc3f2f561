use Rattle.std.proofs.Common.{◌∙◌, sym, arith}
use Rattle.minidump.proofs.Records.{past_end}
use Rattle.minidump.proofs.dump.Minidump.record_at.Goals as goal

pub returns-in_err-checked_mul : goal.returns-in_err-checked_mul
returns-in_err-checked_mul c =
    let past = past_end c.args.self.now c.args.table c.args.size c.args.index
    (omega (arith, c.in_err-checked_mul.ensures, c.size-end.ensures)) in
    c.from_residual.ensures ∙ sym past

pub returns-in_err-at : goal.returns-in_err-at
returns-in_err-at c =
    let past = past_end c.args.self.now c.args.table c.args.size c.args.index
    (omega (arith, c.in_err-at.ensures, c.in_ok-checked_mul.ensures, c.size-end.ensures)) in
    c.from_residual-in_err-at.ensures ∙ sym past
