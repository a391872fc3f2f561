use Rattle.x64_laws.proofs.Effects.{movsx_keeps_signed, movzx_keeps_unsigned}
use Rattle.x64_laws.proofs.arithmetic.extensions.Goals as goal

pub returns : goal.returns
returns c = record { signed = movsx_keeps_signed; unsigned = movzx_keeps_unsigned }
