use Rattle.std.proofs.Common.{arith}
use Rattle.known_frames.proofs.NamedWords.{all_left}
use Rattle.known_frames.proofs.words.lose.Goals as goal

pub returns : goal.returns
returns c =
    let v = c.loop-one.invariant in
    all_left c.args.loss c.loop-one.words c.args.words.now v.0.0
    (λ k lt. v.1 k (omega (arith, lt, v.0.0, c.loop-one-test.false)))
