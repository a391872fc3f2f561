use Rattle.lowering_invariants.proofs.SparedRegisters.{lowered_has}
use Rattle.lowering_invariants.proofs.register_laws.lowered_has_registers.Goals as goal

pub returns : goal.returns
returns c = record { registers = lowered_has }
