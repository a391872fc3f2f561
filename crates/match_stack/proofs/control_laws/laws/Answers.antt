use Rattle.match_stack.proofs.ControlAddresses.{controls_are_of_the_list, control_addresses_are_of_functions}
use Rattle.match_stack.proofs.control_laws.laws.Goals as goal

pub returns : goal.returns
returns c = record {
  walk = controls_are_of_the_list;
  functions = control_addresses_are_of_functions;
}
