use Rattle.std.proofs.Math.Path.{fun_ext}
use Rattle.known_frames.proofs.unwound.set_stack.Goals as goal

pub returns : goal.returns
returns c = fun_ext (λ r. c.with_known.ensures r)
