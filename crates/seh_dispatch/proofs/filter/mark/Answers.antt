use Rattle.std.proofs.Common.{◌%◌, ◌<◌, length, get_or, refl, ◌∙◌, length-set, arith}
use Rattle.seh_dispatch.specs.Words.{REMAINDERS}
use Rattle.seh_dispatch.proofs.FuncletOrder.{no_funclet}
use Rattle.seh_dispatch.proofs.FuncletMarks.{more_marked}
use Rattle.seh_dispatch.proofs.filter.mark.Goals as goal

pub loop-funclet-preserved : goal.loop-funclet-preserved
loop-funclet-preserved c =
    let l = c.loop-funclet in
    let fs = c.args.funclets.now in
    let i = (get_or fs l.funclet-index no_funclet).address % REMAINDERS in
    let size = l.invariant.size in
    let lt : i < length l.marks.items = omega arith in
    record {
      size = length-set l.marks.items i _ ∙ size;
      marked = more_marked l.marks.items fs l.funclet-index i lt c.loop-funclet-test.true refl
          l.invariant.marked;
    }
