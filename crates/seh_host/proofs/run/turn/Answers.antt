use Rattle.std.proofs.Common.{◌≡◌, false, is_some, Option, Some, None, refl, sym, ◌∙◌}
use Rattle.seh_host.specs.Words.{RunEnd}
use Rattle.seh_host.proofs.run.turn.Goals as goal

lives : (end : Option RunEnd) → is_some end ≡ false → end ≡ None
lives None e = refl
lives (Some x) e = absurd cc

pub advance-host-requires-clause-coherent : goal.advance-host-requires-clause-coherent
advance-host-requires-clause-coherent g c =
    let host = c.args.host.now in
    host.coherent (lives host.end (sym c.is_some.ensures ∙ c.if-is_some.false))
