use Rattle.std.proofs.Common.{◌∙◌, refl, sym, ap, arith}
use Rattle.c_checked.specs.Statement.{declared}
use Rattle.c_resolved.specs.Placed.{place_declared}
use Rattle.c_stacked.specs.Views.{layout}
use Rattle.c_stacked.proofs.Walked.{next_unvisited, next_visited, all_visited, declared_placed}
use Rattle.c_stacked.proofs.placed_statements.place_all_declared.Goals as goal

pub loop-one-init : goal.loop-one-init
loop-one-init c = ((refl, λ k d le. refl), λ k d lt. absurd (omega (arith, lt)))

pub loop-one-preserved : goal.loop-one-preserved
loop-one-preserved c =
    let l = layout c.args.places.now in
    let xs = c.loop-one.declared in
    let ys = c.args.declared.now in
    let i = c.loop-one.one-index in
    let new = c.place_declared.new.declared in (
      next_unvisited xs ys i new c.loop-one.invariant.0,
      next_visited declared (λ d. place_declared l (declared d)) xs ys i
          c.one-item.result new c.loop-one-test.true c.loop-one.invariant.0
          c.loop-one.invariant.1 c.one-item.is (c.place_declared.ensures
          ∙ ap (λ d. place_declared l (declared d)) (sym c.one-item.is)),
    )

pub returns : goal.returns
returns c =
    let l = layout c.args.places.now in
    all_visited declared (λ d. place_declared l (declared d)) c.loop-one.declared
    c.args.declared.now c.loop-one.one-index c.loop-one-test.false c.loop-one.invariant.0
    c.loop-one.invariant.1
    ∙ declared_placed l c.args.declared.now
