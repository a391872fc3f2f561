use Rattle.x64_laws.proofs.PushedNumbers.{push_puts_on_top, pop_takes_pushed}
use Rattle.x64_laws.proofs.stack.pushed_numbers.Goals as goal

pub returns : goal.returns
returns c = record { push = push_puts_on_top; pop = pop_takes_pushed }
