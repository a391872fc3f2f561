use Rattle.std.proofs.Common.{sym, ◌∙◌}
use Rattle.x64_decoded.proofs.Testing.{refused_write}
use Rattle.x64_decoded.proofs.fixed.is_fixed_at.Goals as goal

pub returns-in-Err : goal.returns-in-Err
returns-in-Err g c = λ t. record {
  outside = sym c.in_arena.ensures ∙ c.if-in_arena.false;
  read_only = refused_write (g.S.CodeSpace.memory c.args.space.now) c.args.at _ c.in-Err.ensures;
}
