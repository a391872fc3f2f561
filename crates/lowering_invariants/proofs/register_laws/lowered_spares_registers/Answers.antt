use Rattle.lowering_invariants.proofs.SparedRegisters.{lowered_spares}
use Rattle.lowering_invariants.proofs.register_laws.lowered_spares_registers.Goals as goal

pub returns : goal.returns
returns c = record { spares = lowered_spares }
