-- Numbers of a width are below its limit.
use Rattle.std.proofs.Common.{ℕ, ◌<◌, ℤ, pos, negsuc, arith}
use Rattle.seh_num.specs.declared.width.Width.{Width}
use Rattle.seh_num.specs.declared.width.Width.TheVariants.{W8, W16, W32, W64}
use Rattle.seh_num.specs.Widths.{limit, low, wrapped}

pub low_below : (w : Width) (n : ℕ) → low w n < limit w
low_below W8 n = omega arith
low_below W16 n = omega arith
low_below W32 n = omega arith
low_below W64 n = omega arith

pub wrapped_below : (w : Width) (z : ℤ) → wrapped w z < limit w
wrapped_below w (pos n) = low_below w n
wrapped_below W8 (negsuc n) = omega arith
wrapped_below W16 (negsuc n) = omega arith
wrapped_below W32 (negsuc n) = omega arith
wrapped_below W64 (negsuc n) = omega arith
