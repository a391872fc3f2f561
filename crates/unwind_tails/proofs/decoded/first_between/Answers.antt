use Rattle.std.proofs.Common.{◌+◌, ◌-◌, ◌++◌, List, take, ap, ◌∙◌, arith}
use Rattle.virtual_unwind.specs.Tail.{FetchedInstr}
use Rattle.unwind_tails.specs.Instructions.{between}
use Rattle.unwind_tails.proofs.Decoding.{first_items, taken_none, taken_all, taken_more}
use Rattle.unwind_tails.proofs.decoded.first_between.Goals as goal

pub returns-in-None : goal.returns-in-None
returns-in-None g c =
    let m = g.S.CodeSpace.memory c.args.space.now in
    taken_none c.loop-n.items.items (c.args.count - c.loop-n._n)
    (between m c.loop-n.at c.args.end).items c.in-None.ensures.none ∙ c.loop-n.invariant.same

pub overflow_add-at : goal.overflow_add-at
overflow_add-at g c =
    let inside = c.in-Some.ensures.inside in
    let z = c.size-size.ensures in
    omega (arith, inside, z)

pub loop-n-preserved : goal.loop-n-preserved
loop-n-preserved g c =
    let m = g.S.CodeSpace.memory c.args.space.now in
    let z = c.size-size.ensures in
    let h = c.in-Some.ensures in
    let inside = h.inside in
    let x = c.in-Some.item in
    let n = c.loop-n._n in
    let test = c.loop-n-test.true in
    record {
      inside = omega (arith, inside, z);
      same = ap (λ k. c.push.new.self.items ++ take (c.args.count - (n + 1))
          (between m (c.loop-n.at + k) c.args.end).items) z
          ∙ ap (λ (xs : List FetchedInstr). xs ++ take (c.args.count - (n + 1))
          (between m (c.loop-n.at + x.size) c.args.end).items) c.in_ok-push-in-Some.ensures.items
          ∙ taken_more c.loop-n.items.items x (between m (c.loop-n.at + x.size) c.args.end).items
          (between m c.loop-n.at c.args.end).items (c.args.count - n) (c.args.count - (n + 1))
          (first_items m c.args.end c.loop-n.at x h) (omega (arith, test))
          ∙ c.loop-n.invariant.same;
    }

pub returns : goal.returns
returns g c =
    let m = g.S.CodeSpace.memory c.args.space.now in
    let over = c.loop-n-test.false in
    taken_all c.loop-n.items.items (c.args.count - c.loop-n._n)
    (between m c.loop-n.at c.args.end).items (omega (arith, over)) ∙ c.loop-n.invariant.same
