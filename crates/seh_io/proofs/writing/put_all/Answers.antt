use Rattle.std.proofs.Common.{ℕ, length, take, drop, length-drop, ap, ◌∙◌, arith}
use Rattle.std.proofs.lemmas.List.{length-take}
use Rattle.seh_io.specs.Streams.{Faults}
use Rattle.seh_io.proofs.Moves.{grew_next}
use Rattle.seh_io.proofs.writing.put_all.Goals as goal

pub loop-taken-preserved : goal.loop-taken-preserved
loop-taken-preserved g c = record {
  within = omega (arith, c.in-Ok.ensures.fits, length-take {A = ℕ}, length-drop {A = ℕ});
  grew = grew_next _ _ _ c.args.piece.now c.loop-taken.taken c.in-Ok.count
      c.loop-taken.invariant.grew c.in-Ok.ensures.moved;
  faultless = ap (λ (f : Faults). f.count) c.in-Ok.ensures.faultless
      ∙ c.loop-taken.invariant.faultless;
}
