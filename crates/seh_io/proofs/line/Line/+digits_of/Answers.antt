use Rattle.std.proofs.Common.{◌+◌, ◌∷◌, [], ◌/◌, ◌%◌, ◌++◌, length, length-append, ap, ◌∙◌, arith}
use Rattle.std.specs.Fmt.{decimal}
use Rattle.seh_io.proofs.Digits.{length-decimal_step, decimal_some, last_digit, only_digit}
use Rattle.seh_io.proofs.line.Line.+digits_of.Goals as goal
use Rattle.seh_io.proofs.line.Line.+digits_of.Goals.{then-n-ge10, else-n-ge10}

pub digits_of-requires : goal.digits_of-requires
digits_of-requires t c = (
  omega arith,
  omega (
    arith,
    length-decimal_step c.args.n c.if-n-ge10.true c.ranges.n.fits,
  ),
)

pub push-requires : goal.push-requires
push-requires t c =
    elim c.if-n-ge10.branch [
      | then-n-ge10 w ↦ omega (
        arith,
        length-decimal_step c.args.n w.if-n-ge10.true c.ranges.n.fits,
        ap length w.self-is,
        ap length w.digits_of.ensures,
        length-append c.args.self.now (decimal (c.args.n / 10)),
      )
      | else-n-ge10 w ↦ omega (arith, decimal_some c.args.n c.ranges.n.fits, ap length w.self-is)
    ]

pub returns : goal.returns
returns t c =
    elim c.if-n-ge10.branch [
      | then-n-ge10 w ↦ last_digit c.args.n c.args.self.now c.if-n-ge10.self c.push.new.self
          w.if-n-ge10.true c.ranges.n.fits (w.self-is ∙ w.digits_of.ensures) c.push.ensures
      | else-n-ge10 w ↦ only_digit c.args.n c.args.self.now c.push.new.self w.if-n-ge10.false
          (c.push.ensures ∙ ap (λ s. s ++ (48 + c.args.n % 10) ∷ []) w.self-is)
    ]
