use Rattle.host_model.proofs.FixedPlacing.{placing_keeps}
use Rattle.host_model.proofs.FixedTurning.{turns_keep, hosts_keep}
use Rattle.host_model.proofs.fixed_laws.fixed.Goals as goal

pub returns : goal.returns
returns c = record { placing = placing_keeps; turns = turns_keep; hosts = hosts_keep }
