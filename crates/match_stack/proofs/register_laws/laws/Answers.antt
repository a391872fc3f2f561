use Rattle.match_stack.proofs.HostRegisters.{landing_has_registers, landed_body_holds_locals, restored_has_registers, records_rest_on_stack}
use Rattle.match_stack.proofs.AllocatedFrames.{allocations_are_told, told_allocations}
use Rattle.match_stack.proofs.register_laws.laws.Goals as goal

pub returns : goal.returns
returns c = record {
  landing = landing_has_registers;
  landed_body = landed_body_holds_locals;
  restored = restored_has_registers;
  records = records_rest_on_stack;
  allocations = allocations_are_told;
  allocated = told_allocations;
}
