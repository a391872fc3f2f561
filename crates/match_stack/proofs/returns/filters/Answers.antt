use Rattle.match_stack.proofs.FilterAnswers.{filter_returns}
use Rattle.match_stack.proofs.returns.filters.Goals as goal

pub returns : goal.returns
returns c = filter_returns
