use Rattle.x64_lengths_laws.proofs.Measuring.{measured_keeps}
use Rattle.x64_lengths_laws.proofs.laws.measured.Goals as goal

pub returns : goal.returns
returns c = measured_keeps
