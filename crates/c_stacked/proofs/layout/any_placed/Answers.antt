use Rattle.std.proofs.Common.{◌∙◌, sym}
use Rattle.c_stacked.proofs.Placings.{found_at, after_at, none_left}
use Rattle.c_stacked.proofs.layout.any_placed.Goals as goal

pub loop-place-preserved : goal.loop-place-preserved
loop-place-preserved c =
    after_at c.args.places.now c.loop-place.place-index _ c.loop-place-test.true
    (sym c.is_some.ensures ∙ c.if-is_some.false)
    ∙ c.loop-place.invariant

pub returns : goal.returns
returns c = sym (none_left c.args.places.now c.loop-place.place-index c.loop-place-test.false)
    ∙ c.loop-place.invariant

pub returns-then-is_some : goal.returns-then-is_some
returns-then-is_some c =
    sym (found_at c.args.places.now c.loop-place.place-index _ c.loop-place-test.true
    (sym c.is_some.ensures ∙ c.if-is_some.true))
    ∙ c.loop-place.invariant
