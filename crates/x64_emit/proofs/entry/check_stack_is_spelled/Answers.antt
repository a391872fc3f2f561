use Rattle.x64_emit.proofs.CheckStack.{check_stack_spelled}
use Rattle.x64_emit.proofs.entry.check_stack_is_spelled.Goals as goal

pub returns : goal.returns
returns c = check_stack_spelled
