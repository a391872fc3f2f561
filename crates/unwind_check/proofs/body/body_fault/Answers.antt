use Rattle.std.proofs.Common.{◌+◌, [], refl, sym, ap, subst, arith}
use Rattle.unwind_check.specs.Steps.{body_between}
use Rattle.unwind_check.proofs.SameLoads.{same_none}
use Rattle.unwind_check.proofs.BodySteps.{IsAhead, missing, fails, goes, at_end_none}
use Rattle.unwind_check.proofs.body.body_fault.Goals as goal

pub loop-at-init : goal.loop-at-init
loop-at-init g c = record {
  inside = c.requires.order;
  ahead = record {
    loaded = [];
    same = same_none c.new-loaded.result.items c.new-loaded.ensures.items;
    is = refl;
  };
  ended = c.requires.known;
}

pub returns-in-None-clause-fault : goal.returns-in-None-clause-fault
returns-in-None-clause-fault g c =
    let m = g.S.CodeSpace.memory c.args.space.now in
    let i = c.args.info.now in
    missing m i c.loop-at.loaded.items c.loop-at.at c.args.end c.loop-at.left
    (body_between m i c.args.begin c.args.end [] 0) c.loop-at.invariant.ahead c.in-None.ensures
    c.loop-at-test.true

pub returns-in-Err-clause-fault : goal.returns-in-Err-clause-fault
returns-in-Err-clause-fault g c =
    let m = g.S.CodeSpace.memory c.args.space.now in
    let i = c.args.info.now in
    let a = c.loop-at.invariant.ahead in
    fails m i c.loop-at.loaded.items c.loop-at.at c.args.end c.loop-at.left
    (body_between m i c.args.begin c.args.end [] 0) a c.in-Some.item c.in-Some.ensures
    c.step.new.loaded.items c.in_ok-passed-in-Some.passed c.in-Err.fault
    (c.in_ok-passed-in-Some.ensures.step a.loaded a.same) c.in-Err.is

pub overflow_add-at : goal.overflow_add-at
overflow_add-at g c =
    let inside = c.in-Some.ensures.inside in
    let z = c.size-at.ensures in
    omega (arith, inside, z)

pub loop-at-smaller : goal.loop-at-smaller
loop-at-smaller g c =
    let inside = c.in-Some.ensures.inside in
    let sized = c.in-Some.ensures.sized in
    let z = c.size-at.ensures in
    omega (arith, inside, sized, z)

pub loop-at-preserved : goal.loop-at-preserved
loop-at-preserved g c =
    let m = g.S.CodeSpace.memory c.args.space.now in
    let i = c.args.info.now in
    let a = c.loop-at.invariant.ahead in
    let z = c.size-at.ensures in
    let inside = c.in-Some.ensures.inside in
    let all = body_between m i c.args.begin c.args.end [] 0 in
    record {
      inside = omega (arith, inside, z);
      ahead = subst (λ k. IsAhead m i c.step.new.loaded.items k c.args.end c.in-Ok.still all)
          (ap (λ k. c.loop-at.at + k) (sym z))
          (goes m i c.loop-at.loaded.items c.loop-at.at c.args.end c.loop-at.left all a
          c.in-Some.item c.in-Some.ensures c.step.new.loaded.items c.in_ok-passed-in-Some.passed
          c.in-Ok.still (c.in_ok-passed-in-Some.ensures.step a.loaded a.same) c.in-Ok.is);
      ended = c.step.ensures.known;
    }

pub returns-clause-fault : goal.returns-clause-fault
returns-clause-fault g c =
    let m = g.S.CodeSpace.memory c.args.space.now in
    let i = c.args.info.now in
    let test = c.loop-at-test.false in
    let inside = c.loop-at.invariant.inside in
    at_end_none m i c.loop-at.loaded.items c.loop-at.at c.args.end c.loop-at.left
    (body_between m i c.args.begin c.args.end [] 0) c.loop-at.invariant.ahead
    (omega (arith, test, inside))
