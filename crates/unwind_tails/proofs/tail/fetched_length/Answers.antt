use Rattle.std.proofs.Common.{◌+◌, ◌-◌, ◌%◌, ◌^◌, false, Bool, Some, refl, sym, ap, ◌∙◌, arith}
use Rattle.unwind_tails.proofs.Rests.{no_fuel, none_there, no_part, last_part, goes_on}
use Rattle.unwind_tails.proofs.tail.fetched_length.Goals as goal

pub returns-in-None-clause-value : goal.returns-in-None-clause-value
returns-in-None-clause-value g c =
    let m = g.S.CodeSpace.memory c.args.space.now in
    let n = c.loop-n.n in
    sym (none_there m c.args.register c.loop-n.here false n (0xFFFF_FFFF_FFFF_FFFF - n)
    (sym c.in-None.ensures)) ∙ c.loop-n.invariant

pub returns-in-None-is_last-clause-value : goal.returns-in-None-is_last-clause-value
returns-in-None-is_last-clause-value g c =
    let m = g.S.CodeSpace.memory c.args.space.now in
    let n = c.loop-n.n in
    sym (no_part m c.args.register c.loop-n.here false n (0xFFFF_FFFF_FFFF_FFFF - n)
    c.in-Some.item (sym c.in-Some.ensures) (sym c.in-None-is_last.ensures)) ∙ c.loop-n.invariant

pub returns-then-last-clause-value : goal.returns-then-last-clause-value
returns-then-last-clause-value g c =
    let m = g.S.CodeSpace.memory c.args.space.now in
    let n = c.loop-n.n in
    let below = c.loop-n-test.true in
    sym (last_part m c.args.register c.loop-n.here false n (0xFFFF_FFFF_FFFF_FFFF - n)
    c.in-Some.item (omega (arith, below)) (sym c.in-Some.ensures) (sym c.in-Some-is_last.ensures
    ∙ ap (λ (b : Bool). Some b) c.if-last.true)) ∙ c.loop-n.invariant

pub loop-n-preserved : goal.loop-n-preserved
loop-n-preserved g c =
    let m = g.S.CodeSpace.memory c.args.space.now in
    let n = c.loop-n.n in
    let below = c.loop-n-test.true in
    goes_on m c.args.register c.loop-n.here false n (0xFFFF_FFFF_FFFF_FFFF - n)
    (0xFFFF_FFFF_FFFF_FFFF - (n + 1)) c.in-Some.item
    ((c.loop-n.here + c.size-here.result) % 2 ^ 64) false (omega (arith, below))
    (sym c.in-Some.ensures) (sym c.in-Some-is_last.ensures ∙ ap (λ (b : Bool). Some b)
    c.if-last.false) (ap (λ k. (c.loop-n.here + k) % 2 ^ 64) c.size-here.ensures)
    refl ∙ c.loop-n.invariant

pub returns-clause-value : goal.returns-clause-value
returns-clause-value g c =
    let m = g.S.CodeSpace.memory c.args.space.now in
    let n = c.loop-n.n in
    let over = c.loop-n-test.false in
    sym (no_fuel m c.args.register c.loop-n.here false n (0xFFFF_FFFF_FFFF_FFFF - n)
    (omega (arith, over))) ∙ c.loop-n.invariant
