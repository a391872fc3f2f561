use Rattle.std.proofs.Common.{◌≤◌, length, refl, arith}
use Rattle.c_locals.proofs.GlobalPlaces.{globals_on, globals_end}
use Rattle.c_locals.proofs.globals.globals.Goals as goal

pub loop-g-init : goal.loop-g-init
loop-g-init c = λ d h. (d, h, refl)

pub loop-g-preserved : goal.loop-g-preserved
loop-g-preserved c = globals_on c.args.text.now c.args.base c.args.list.now c.loop-g.g-index
    c.g-item.result c.args.file.now c.loop-g.file _ c.loop-g-test.true c.g-item.is
    c.in_ok-global.ensures c.loop-g.invariant

pub returns : goal.returns
returns c =
    let past : length c.args.list.now ≤ c.loop-g.g-index = omega (arith, c.loop-g-test.false) in
    globals_end c.args.text.now c.args.base c.args.list.now c.loop-g.g-index c.args.file.now
    c.loop-g.file past c.loop-g.invariant
