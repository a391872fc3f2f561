use Rattle.match_stack.proofs.DispatchSteps.{raise_asks, local_unwind_unwinds, acceptance_unwinds, answers_continue, finally_returns_unwind}
use Rattle.match_stack.proofs.steps.steps.Goals as goal

pub returns : goal.returns
returns c = record {
  raises = raise_asks;
  local = local_unwind_unwinds;
  accepts = acceptance_unwinds;
  answers = answers_continue;
  returns = finally_returns_unwind;
}
