use Rattle.std.proofs.Common.{ℕ, ◌++◌, ◌∷◌, [], arith, ap, length, length-append, ◌∙◌}
use Rattle.seh_io.proofs.Digits.{length-hexadecimal, all_places, next_place}
use Rattle.seh_io.proofs.line.Line.hexadecimal.Goals as goal

pub loop-place-init : goal.loop-place-init
loop-place-init c = all_places c.args.self.now c.args.digits c.args.n

pub push-requires : goal.push-requires
push-requires c = omega (
  arith,
  ap length c.loop-place.invariant,
  length-append {A = ℕ},
  length-hexadecimal,
)

pub loop-place-preserved : goal.loop-place-preserved
loop-place-preserved c = next_place c.args.self.now c.loop-place.self c.push.new.self c.args.digits
    c.args.n c.loop-place.place (omega arith) (omega arith) c.loop-place.invariant
    (c.push.ensures ∙ ap (λ b. c.loop-place.self ++ b ∷ []) c.glyph.ensures)

pub returns-clause-len : goal.returns-clause-len
returns-clause-len c = omega (
  arith,
  ap length c.loop-place.invariant,
  length-append {A = ℕ},
  length-hexadecimal,
)
