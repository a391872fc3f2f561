use Rattle.std.proofs.Common.{◌+◌, arith}
use Rattle.unwind_tails.specs.Instructions.{between}
use Rattle.unwind_check.proofs.BodySteps.{rest_shown, skipped}
use Rattle.unwind_check.proofs.body.step.Goals as goal

pub returns-in_ok-passed-clause-step : goal.returns-in_ok-passed-clause-step
returns-in_ok-passed-clause-step g c rs h =
    let m = g.S.CodeSpace.memory c.args.space.now in
    let x = c.args.item.now in
    rest_shown m c.args.info.now c.args.at x (between m (c.args.at + x.size) c.args.end).items
    c.pass_rest.new.loaded.items rs c.in_ok-passed.passed c.args.left c.if-left-eq0.true
    (c.in_ok-passed.ensures.step rs h)

pub returns-else-left-eq0-clause-step : goal.returns-else-left-eq0-clause-step
returns-else-left-eq0-clause-step g c rs h =
    let m = g.S.CodeSpace.memory c.args.space.now in
    let x = c.args.item.now in
    let some = c.if-left-eq0.false in
    skipped m c.args.info.now c.args.at x (between m (c.args.at + x.size) c.args.end).items
    c.clear.new.self.items rs c.args.left (omega (arith, some)) c.clear.ensures.items
