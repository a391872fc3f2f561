use Rattle.match_stack.proofs.VectoredAnswers.{vectored_returns}
use Rattle.match_stack.proofs.returns.handlers.Goals as goal

pub returns : goal.returns
returns c = vectored_returns
