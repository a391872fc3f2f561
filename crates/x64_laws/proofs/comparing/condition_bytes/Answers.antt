use Rattle.x64_laws.proofs.ConditionBytes.{set_tells_comparison}
use Rattle.x64_laws.proofs.comparing.condition_bytes.Goals as goal

pub returns : goal.returns
returns c = set_tells_comparison
