use Rattle.std.proofs.Common.{◌≡◌, ◌+◌, ◌-◌, ◌%◌, ◌^◌, Bool, List, false, Some, length, refl, sym, ap, ◌∙◌, arith}
use Rattle.virtual_unwind.specs.Tail.{FetchedInstr, tail}
use Rattle.unwind_tails.specs.Instructions.{between}
use Rattle.unwind_tails.specs.Tails.{counted}
use Rattle.unwind_tails.proofs.Decoding.{none_left, first_items}
use Rattle.unwind_tails.proofs.Rests.{no_part, last_part, goes_on, same_tail}
use Rattle.unwind_tails.proofs.tail.later_tail.Goals as goal

pub returns-in-None-clause-tail : goal.returns-in-None-clause-tail
returns-in-None-clause-tail g c =
    let m = g.S.CodeSpace.memory c.args.space.now in
    let count = c.loop-here.count in
    let none = ap (λ (xs : List FetchedInstr). length xs) c.in-None.ensures.none in
    let items = c.loop-here.invariant.items in
    same_tail count (1 + length (between m c.args.begin c.args.end).items)
    (counted count (tail (0xFFFF_FFFF_FFFF_FFFF - count) false c.args.register m c.loop-here.here))
    (counted 1 (tail 0xFFFF_FFFF_FFFF_FFFE false c.args.register m c.args.begin))
    c.in_ok-tail-in-None.tail (omega (arith, none, items)) c.loop-here.invariant.same
    c.in_ok-tail-in-None.ensures.tail

pub returns-in-None-is_last-clause-tail : goal.returns-in-None-is_last-clause-tail
returns-in-None-is_last-clause-tail g c =
    let m = g.S.CodeSpace.memory c.args.space.now in
    let count = c.loop-here.count in
    sym c.loop-here.invariant.same
    ∙ no_part m c.args.register c.loop-here.here false count (0xFFFF_FFFF_FFFF_FFFF - count)
    c.in-Some.item c.in-Some.ensures.there (sym c.in-None-is_last.ensures)

pub overflow_add-count : goal.overflow_add-count
overflow_add-count g c =
    let few = c.loop-here.invariant.few in
    let inside = c.loop-here.invariant.inside in
    let low = c.requires.low in
    omega (arith, few, inside, low)

pub returns-then-last-clause-tail : goal.returns-then-last-clause-tail
returns-then-last-clause-tail g c =
    let m = g.S.CodeSpace.memory c.args.space.now in
    let count = c.loop-here.count in
    let h = c.in-Some.ensures in
    let some = ap (λ (xs : List FetchedInstr). length xs)
    (first_items m c.args.end c.loop-here.here c.in-Some.item h) in
    let few = c.loop-here.invariant.few in
    let inside = c.loop-here.invariant.inside in
    let low = c.requires.low in
    let items = c.loop-here.invariant.items in (
      sym c.loop-here.invariant.same
          ∙ last_part m c.args.register c.loop-here.here false count
          (0xFFFF_FFFF_FFFF_FFFF - count) c.in-Some.item (omega (arith, few, inside, low)) h.there
          (sym c.in-Some-is_last.ensures ∙ ap (λ (b : Bool). Some b) c.if-last.true),
      omega (arith, some, items),
    )

pub overflow_add-here : goal.overflow_add-here
overflow_add-here g c =
    let inside = c.in-Some.ensures.inside in
    let z = c.size-here.ensures in
    omega (arith, inside, z)

pub loop-here-smaller : goal.loop-here-smaller
loop-here-smaller g c =
    let inside = c.in-Some.ensures.inside in
    let sized = c.in-Some.ensures.sized in
    let z = c.size-here.ensures in
    omega (arith, inside, sized, z)

pub loop-here-preserved : goal.loop-here-preserved
loop-here-preserved g c =
    let m = g.S.CodeSpace.memory c.args.space.now in
    let count = c.loop-here.count in
    let here = c.loop-here.here in
    let h = c.in-Some.ensures in
    let x = c.in-Some.item in
    let inside = h.inside in
    let sized = h.sized in
    let z = c.size-here.ensures in
    let few = c.loop-here.invariant.few in
    let low = c.requires.low in
    let items = c.loop-here.invariant.items in
    let first = ap (λ (xs : List FetchedInstr). length xs)
    (first_items m c.args.end here x h) in
    let rest = ap (λ k. length (between m (here + k) c.args.end).items) z in
    record {
      inside = omega (arith, inside, z);
      some = omega arith;
      few = omega (arith, few, sized, z);
      items = omega (arith, items, first, rest);
      same = goes_on m c.args.register here false count (0xFFFF_FFFF_FFFF_FFFF - count)
          (0xFFFF_FFFF_FFFF_FFFF - (count + 1)) x (here + c.size-here.result) false
          (omega (arith, few, inside, low)) h.there
          (sym c.in-Some-is_last.ensures ∙ ap (λ (b : Bool). Some b) c.if-last.false)
          (let y : here + c.size-here.result ≡ (here + x.size) % 2 ^ 64 = omega
          (arith, z, inside, low) in y) refl ∙ c.loop-here.invariant.same;
      ended = c.loop-here.invariant.ended;
    }

pub returns-clause-tail : goal.returns-clause-tail
returns-clause-tail g c =
    let m = g.S.CodeSpace.memory c.args.space.now in
    let count = c.loop-here.count in
    let test = c.loop-here-test.false in
    let inside = c.loop-here.invariant.inside in
    let none = ap (λ (xs : List FetchedInstr). length xs)
    (none_left m c.args.end c.loop-here.here (omega (arith, test, inside))).none in
    let items = c.loop-here.invariant.items in
    same_tail count (1 + length (between m c.args.begin c.args.end).items)
    (counted count (tail (0xFFFF_FFFF_FFFF_FFFF - count) false c.args.register m c.loop-here.here))
    (counted 1 (tail 0xFFFF_FFFF_FFFF_FFFE false c.args.register m c.args.begin))
    c.in_ok-outside.outside (omega (arith, none, items)) c.loop-here.invariant.same
    c.in_ok-outside.ensures.tail

pub tail_outside-requires-clause-few : goal.tail_outside-requires-clause-few
tail_outside-requires-clause-few g c =
    let few = c.loop-here.invariant.few in
    let inside = c.loop-here.invariant.inside in
    let low = c.requires.low in
    omega (arith, few, inside, low)

pub tail_outside-requires-2-clause-few : goal.tail_outside-requires-2-clause-few
tail_outside-requires-2-clause-few g c =
    let few = c.loop-here.invariant.few in
    let inside = c.loop-here.invariant.inside in
    let low = c.requires.low in
    omega (arith, few, inside, low)
