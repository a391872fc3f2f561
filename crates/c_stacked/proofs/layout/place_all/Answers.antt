use Rattle.c_stacked.proofs.Placings.{all_placed, all_marked}
use Rattle.c_stacked.proofs.layout.place_all.Goals as goal
use Rattle.c_stacked.proofs.layout.place_all.Goals.{then-loop-next-test+else-next-marks, else-loop-next-test}

pub returns : goal.returns
returns c =
    let vs = c.args.variables.now in
    let marks = c.args.marks.now in
    elim c.loop-next-test.branch [
      | then-loop-next-test+else-next-marks w ↦
          all_marked vs marks c.loop-next.next c.loop-next.placing c.loop-next.invariant
          w.if-next-marks.false
      | else-loop-next-test w ↦
          all_placed vs marks c.loop-next.next c.loop-next.placing c.loop-next.invariant
          w.loop-next-test.false
    ]
