use Rattle.std.proofs.Common.{arith, ap, length, length-append}
use Rattle.std.specs.Fmt.{decimal}
use Rattle.seh_io.proofs.Digits.{decimal_fits}
use Rattle.seh_io.proofs.line.Line.natural.Goals as goal

pub digits_of-requires : goal.digits_of-requires
digits_of-requires c = omega (arith, decimal_fits c.args.n c.ranges.n.fits)

pub returns-clause-len : goal.returns-clause-len
returns-clause-len c = omega (
  arith,
  decimal_fits c.args.n c.ranges.n.fits,
  ap length c.digits_of.ensures,
  length-append c.args.self.now (decimal c.args.n),
)
