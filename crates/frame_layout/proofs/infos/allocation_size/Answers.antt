use Rattle.frame_layout.proofs.Sizes.{takes_four, takes_seven, takes_thirteen}
use Rattle.frame_layout.proofs.infos.allocation_size.Goals as goal

pub returns-then-size-gt-PROBE_FREE-clause-value :
    goal.returns-then-size-gt-PROBE_FREE-clause-value
returns-then-size-gt-PROBE_FREE-clause-value c = λ probe.
    takes_thirteen probe c.args.size c.if-size-gt-PROBE_FREE.true

pub returns-then-size-lt128-clause-value : goal.returns-then-size-lt128-clause-value
returns-then-size-lt128-clause-value c = λ probe.
    takes_four probe c.args.size c.if-size-lt128.true

pub returns-else-size-lt128-clause-value : goal.returns-else-size-lt128-clause-value
returns-else-size-lt128-clause-value c = λ probe.
    takes_seven probe c.args.size c.if-size-lt128.false c.if-size-gt-PROBE_FREE.false
