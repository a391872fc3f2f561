use Rattle.x64_laws.proofs.Shifted.{shl_is_product, shr_is_quotient, sar_sets_flags}
use Rattle.x64_laws.proofs.shifting.shifts.Goals as goal

pub returns : goal.returns
returns c = record { left = shl_is_product; right = shr_is_quotient; arithmetic = sar_sets_flags }
