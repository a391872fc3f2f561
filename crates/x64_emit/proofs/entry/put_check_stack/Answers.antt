use Rattle.x64_emit.proofs.CheckStack.{check_stack_added}
use Rattle.x64_emit.proofs.entry.put_check_stack.Goals as goal

pub returns : goal.returns
returns c = check_stack_added c.extend_from_slice.result c.args.code.now.items
    c.extend_from_slice.new.self.items c.extend_from_slice.ensures.items
