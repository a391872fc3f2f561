use Rattle.std.proofs.lemmas.List.{append-nil}
use Rattle.std.proofs.Common.{sym}
use Rattle.source_steps.proofs.LocalsLemmas.{one_zero_more}
use Rattle.source_steps.proofs.activations.with_zeros.Goals as goal

pub loop-i-init : goal.loop-i-init
loop-i-init c = sym (append-nil c.args.values.items)

pub loop-i-preserved : goal.loop-i-preserved
loop-i-preserved c =
    one_zero_more c.args.values.items _ c.loop-i.all.items c.loop-i._i c.loop-i.invariant
    c.in_ok-push.ensures.items
