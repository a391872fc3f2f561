use Rattle.std.proofs.Common.{arith}
use Rattle.x64_emit.proofs.TemplateSizes.{near_length, far_length}
use Rattle.x64_emit.proofs.sizes.word_size.Goals as goal

pub returns-then-displacement-lt128-clause-value :
    goal.returns-then-displacement-lt128-clause-value
returns-then-displacement-lt128-clause-value c =
    near_length c.args.displacement c.if-displacement-lt128.true

pub returns-else-displacement-lt128-clause-value :
    goal.returns-else-displacement-lt128-clause-value
returns-else-displacement-lt128-clause-value c =
    let far = c.if-displacement-lt128.false in
    let near = c.requires in
    far_length c.args.displacement (omega arith) (omega arith)
