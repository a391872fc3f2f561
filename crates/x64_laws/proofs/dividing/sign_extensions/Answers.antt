use Rattle.x64_laws.proofs.Divisions.{cdq_keeps_signed}
use Rattle.x64_laws.proofs.dividing.sign_extensions.Goals as goal

pub returns : goal.returns
returns c = cdq_keeps_signed
