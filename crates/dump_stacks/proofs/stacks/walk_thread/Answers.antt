use Rattle.std.proofs.Common.{sym, ◌∙◌}
use Rattle.minidump.specs.Contexts.{context}
use Rattle.dump_stacks.proofs.ThreadWalked.{thread_walked}
use Rattle.dump_stacks.proofs.stacks.walk_thread.Goals as goal

-- src/stacks.rt:18:1
pub returns-in-Ok : goal.returns-in-Ok
returns-in-Ok c are =
    thread_walked c.args.views.now c.args.ranges.now (context c.args.file.now c.args.location)
    c.in-Ok.found c.registers_of-registers.result c.args.frames.now c.walk_stack.new.frames
    c.walk_stack.result (sym c.in-Ok.is ∙ c.context.ensures) c.registers_of-registers.ensures
    (c.walk_stack.ensures are)
