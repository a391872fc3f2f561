use Rattle.std.proofs.Common.{◌+◌, true, false, List, sym, ap, ◌∙◌, arith}
use Rattle.virtual_unwind.specs.Tail.{FetchedInstr}
use Rattle.unwind_tails.specs.Instructions.{between}
use Rattle.unwind_tails.proofs.Decoding.{onto, onto_none, none_more, at_end, onto_one}
use Rattle.unwind_tails.proofs.decoded.decoded_between.Goals as goal

pub returns-in-None : goal.returns-in-None
returns-in-None g c =
    let m = g.S.CodeSpace.memory c.args.space.now in
    sym (onto_none c.loop-at.items.items false)
    ∙ sym (ap (onto c.loop-at.items.items) (none_more m c.args.end c.loop-at.at c.loop-at-test.true
    c.in-None.ensures)) ∙ c.loop-at.invariant.same

pub overflow_add-at : goal.overflow_add-at
overflow_add-at g c =
    let inside = c.in-Some.ensures.inside in
    let z = c.size-size.ensures in
    omega (arith, inside, z)

pub loop-at-smaller : goal.loop-at-smaller
loop-at-smaller g c =
    let inside = c.in-Some.ensures.inside in
    let sized = c.in-Some.ensures.sized in
    let z = c.size-size.ensures in
    omega (arith, inside, sized, z)

pub loop-at-preserved : goal.loop-at-preserved
loop-at-preserved g c =
    let m = g.S.CodeSpace.memory c.args.space.now in
    let z = c.size-size.ensures in
    let h = c.in-Some.ensures in
    let inside = h.inside in
    record {
      inside = omega (arith, inside, z);
      same = ap (λ k. onto c.push.new.self.items (between m (c.loop-at.at + k) c.args.end)) z
          ∙ ap (λ (xs : List FetchedInstr). onto xs (between m (c.loop-at.at + c.in-Some.item.size)
          c.args.end)) c.in_ok-push-in-Some.ensures.items
          ∙ onto_one c.loop-at.items.items c.in-Some.item (between m
          (c.loop-at.at + c.in-Some.item.size) c.args.end)
          ∙ sym (ap (onto c.loop-at.items.items) h.others) ∙ c.loop-at.invariant.same;
    }

pub returns : goal.returns
returns g c =
    let m = g.S.CodeSpace.memory c.args.space.now in
    let test = c.loop-at-test.false in
    let inv = c.loop-at.invariant.inside in
    sym (onto_none c.loop-at.items.items true)
    ∙ sym (ap (onto c.loop-at.items.items) (at_end m c.args.end c.loop-at.at (omega arith)))
    ∙ c.loop-at.invariant.same
