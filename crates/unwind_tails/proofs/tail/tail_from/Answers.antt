use Rattle.std.proofs.Common.{◌≡◌, ◌+◌, ◌%◌, ◌^◌, Bool, true, false, Some, length, sym, ap, ◌∙◌, arith}
use Rattle.virtual_unwind.specs.Tail.{tail, tail_at}
use Rattle.unwind_tails.specs.Instructions.{between}
use Rattle.unwind_tails.specs.Tails.{counted}
use Rattle.unwind_tails.proofs.Rests.{no_part, last_part, next_part, same_tail}
use Rattle.unwind_tails.proofs.tail.tail_from.Goals as goal

pub returns-in-None-clause-tail : goal.returns-in-None-clause-tail
unfolding tail_at
returns-in-None-clause-tail g c =
    no_part (g.S.CodeSpace.memory c.args.space.now) c.args.register c.args.at true 0
    0xFFFF_FFFF_FFFF_FFFF c.args.item.now c.requires.there (sym c.in-None.ensures)

pub returns-then-last-clause-tail : goal.returns-then-last-clause-tail
unfolding tail_at
returns-then-last-clause-tail g c = (
  last_part (g.S.CodeSpace.memory c.args.space.now) c.args.register c.args.at true 0
      0xFFFF_FFFF_FFFF_FFFF c.args.item.now (omega arith) c.requires.there
      (sym c.in-Some.ensures ∙ ap (λ (b : Bool). Some b) c.if-last.true),
  omega arith,
)

pub returns-in_ok-later-in-Some-clause-tail : goal.returns-in_ok-later-in-Some-clause-tail
unfolding tail_at
returns-in_ok-later-in-Some-clause-tail g c =
    let m = g.S.CodeSpace.memory c.args.space.now in
    let x = c.args.item.now in
    let z = c.size.ensures in
    let inside = c.requires.inside in
    let low = c.requires.low in
    let f = c.args.register in
    let at = c.args.at in
    same_tail (1 + length (between m (at + c.size.result) c.args.end).items)
    (1 + length (between m (at + x.size) c.args.end).items)
    (counted 1 (tail 0xFFFF_FFFF_FFFF_FFFE false f m (at + c.size.result)))
    (counted 0 (tail 0xFFFF_FFFF_FFFF_FFFF true f m at)) c.in_ok-later-in-Some.later
    (ap (λ k. 1 + length (between m (at + k) c.args.end).items) z)
    (ap (λ k. counted 1 (tail 0xFFFF_FFFF_FFFF_FFFE false f m k))
    (let y : at + c.size.result ≡ (at + x.size) % 2 ^ 64 = omega (arith, z, inside, low) in y)
    ∙ sym (next_part m f at true 0 0xFFFF_FFFF_FFFF_FFFF 0xFFFF_FFFF_FFFF_FFFE x (omega arith)
    c.requires.there (sym c.in-Some.ensures ∙ ap (λ (b : Bool). Some b) c.if-last.false)))
    c.in_ok-later-in-Some.ensures.tail
