use Rattle.stack_probe_laws.proofs.Probe.{probes_come_back}
use Rattle.stack_probe_laws.proofs.laws.probes.Goals as goal

pub returns : goal.returns
returns c = probes_come_back
