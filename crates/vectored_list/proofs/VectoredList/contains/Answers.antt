use Rattle.std.proofs.Common.{add-one, arith}
use Rattle.vectored_list.proofs.Places.{not_listed_so_far, listed_at}
use Rattle.vectored_list.proofs.VectoredList.contains.Goals as goal

pub returns-then-other-handler : goal.returns-then-other-handler
returns-then-other-handler c =
    grind (arith, listed_at c.args.handler c.as_slice-items.result.now c.loop-other.other-index)

pub loop-other-preserved : goal.loop-other-preserved
loop-other-preserved c =
    rw add-one
    (grind (
      arith,
      not_listed_so_far c.args.handler c.as_slice-items.result.now
          c.loop-other.other-index,
    ))
