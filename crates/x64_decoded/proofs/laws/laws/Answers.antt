use Rattle.x64_decoded.proofs.Keeping.{stores_keep, protect_keeps, keeps_then}
use Rattle.x64_decoded.proofs.Effects.{effects_keep, steps_keep}
use Rattle.x64_decoded.proofs.Staying.{cache_stays}
use Rattle.x64_decoded.proofs.laws.laws.Goals as goal

pub returns : goal.returns
returns c = record {
  stores = stores_keep;
  protect = protect_keeps;
  effects = effects_keep;
  steps = steps_keep;
  transitive = keeps_then;
  caches = cache_stays;
}
