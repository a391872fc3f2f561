use Rattle.std.proofs.Common.{ℕ, arith, ap, length, length-append}
use Rattle.seh_io.proofs.Digits.{decimal_half_fits}
use Rattle.seh_io.proofs.line.Line.integer.Goals as goal
use Rattle.seh_io.proofs.line.Line.integer.Goals.{then-n-lt0, else-n-lt0}

pub digits_of-requires : goal.digits_of-requires
digits_of-requires c =
    elim c.if-n-lt0.branch [
      | then-n-lt0 w ↦ omega (
        arith,
        decimal_half_fits c.unsigned_abs.result
            c.unsigned_abs.ensures.bound,
        ap length w.self-is,
        ap length w.push.ensures,
        length-append {A = ℕ},
      )
      | else-n-lt0 w ↦ omega (
        arith,
        decimal_half_fits c.unsigned_abs.result
            c.unsigned_abs.ensures.bound,
        ap length w.self-is,
      )
    ]

pub returns-clause-len : goal.returns-clause-len
returns-clause-len c =
    elim c.if-n-lt0.branch [
      | then-n-lt0 w ↦ omega (
        arith,
        decimal_half_fits c.unsigned_abs.result
            c.unsigned_abs.ensures.bound,
        ap length w.self-is,
        ap length w.push.ensures,
        ap length c.digits_of.ensures,
        length-append {A = ℕ},
      )
      | else-n-lt0 w ↦ omega (
        arith,
        decimal_half_fits c.unsigned_abs.result
            c.unsigned_abs.ensures.bound,
        ap length w.self-is,
        ap length c.digits_of.ensures,
        length-append {A = ℕ},
      )
    ]
