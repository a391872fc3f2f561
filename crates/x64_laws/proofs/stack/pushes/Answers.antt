use Rattle.x64_laws.proofs.StackTop.{pop_raises_back, push_stores_below_top, pop_takes_top, pop_is_refused}
use Rattle.x64_laws.proofs.stack.pushes.Goals as goal

pub returns : goal.returns
returns c = record {
  push = push_stores_below_top;
  pop = pop_takes_top;
  refused = pop_is_refused;
  back = pop_raises_back;
}
