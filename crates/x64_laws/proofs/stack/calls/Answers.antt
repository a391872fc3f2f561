use Rattle.x64_laws.proofs.StackTop.{ret_raises_back, call_pushes_and_jumps, ret_goes_to_top, ret_is_refused}
use Rattle.x64_laws.proofs.stack.calls.Goals as goal

pub returns : goal.returns
returns c = record {
  call = call_pushes_and_jumps;
  ret = ret_goes_to_top;
  refused = ret_is_refused;
  back = ret_raises_back;
}
