use Rattle.std.proofs.Common.{arith}
use Rattle.frame_layout.proofs.Planned.{pushes_length, probe_end_few}
use Rattle.frame_layout.proofs.instructions.probe_end.Goals as goal

pub returns-clause-value : goal.returns-clause-value
returns-clause-value c =
    let f = c.args.frame.now in
    let e = pushes_length f.pushes f.framed c.requires.pushes in
    let own = c.frame_pushes.ensures in
    omega arith

pub returns-clause-few : goal.returns-clause-few
returns-clause-few c =
    let e = returns-clause-value c in
    let few = probe_end_few c.args.frame.now c.requires.pushes in
    omega arith
