use Rattle.std.proofs.Common.{◌≤◌, length, map, refl, sym, subst, arith}
use Rattle.c_locals.specs.Words.{least_of, declares, environment}
use Rattle.c_locals.proofs.DeclarationLocals.{rest_of, one_declared, all_declared}
use Rattle.c_locals.proofs.WalkResults.{StillToMake, nothing_made}
use Rattle.c_locals.proofs.declarations.declare_each.Goals as goal

pub loop-local-init : goal.loop-local-init
loop-local-init c =
    let whole = rest_of (environment c.args.env.now c.args.names.now.around) c.args.base
    c.args.locals.now c.args.names.now.block c.args.state.now in
    let first = least_of c.args.state.now.faults in (
      refl,
      subst (λ k. StillToMake whole first (map declares k) first whole)
          (sym c.new-made.ensures.items) (nothing_made whole first),
    )

pub loop-local-preserved : goal.loop-local-preserved
loop-local-preserved c =
    let start = c.args.names.now in
    one_declared c.args.env.now c.args.base (rest_of (environment c.args.env.now start.around)
    c.args.base c.args.locals.now start.block c.args.state.now) start c.loop-local.names _
    c.args.state.now c.loop-local.state _ c.loop-local.made.items _ _
    c.args.locals.now c.loop-local.local-index c.local-item.result
    c.loop-local-test.true c.local-item.is c.loop-local.invariant.0 c.in_ok-declare.ensures
    c.in_ok-push.ensures.items c.loop-local.invariant.1

pub returns : goal.returns
returns c =
    let start = c.args.names.now in
    let a = environment c.args.env.now start.around in
    let past : length c.args.locals.now ≤ c.loop-local.local-index = omega
    (arith, c.loop-local-test.false) in
    all_declared a c.args.base (rest_of a c.args.base c.args.locals.now start.block
    c.args.state.now) start c.loop-local.names c.args.state.now c.loop-local.state
    c.loop-local.made.items c.args.locals.now c.loop-local.local-index past
    c.loop-local.invariant.0 c.loop-local.invariant.1
