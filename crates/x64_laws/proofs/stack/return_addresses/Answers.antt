use Rattle.x64_laws.proofs.PushedNumbers.{call_puts_return_address, ret_takes_return_address}
use Rattle.x64_laws.proofs.stack.return_addresses.Goals as goal

pub returns : goal.returns
returns c = record { call = call_puts_return_address; ret = ret_takes_return_address }
