use Rattle.x64_laws.proofs.HandlersKept.{step_reads_no_handlers, step_keeps_handlers}
use Rattle.x64_laws.proofs.handlers.handlers.Goals as goal

pub returns : goal.returns
returns c = record { unread = step_reads_no_handlers; kept = step_keeps_handlers }
