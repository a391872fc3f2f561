use Rattle.std.proofs.Common.{sym, ◌∙◌, arith}
use Rattle.unwind_tails.proofs.Decoding.{none_left, none_known, none_sized, none_fits, first_known}
use Rattle.unwind_tails.proofs.decoded.item_before.Goals as goal

pub returns-then-at-end : goal.returns-then-at-end
returns-then-at-end g c =
    none_left (g.S.CodeSpace.memory c.args.space.now) c.args.end c.args.at c.if-at-end.true

pub returns-in-None : goal.returns-in-None
returns-in-None g c =
    let le = c.requires in
    let ne = c.if-at-end.false in
    none_known (g.S.CodeSpace.memory c.args.space.now) c.args.end c.args.at
    (omega (arith, le, ne)) (sym c.in-None.ensures)

pub returns-then-size-eq0 : goal.returns-then-size-eq0
returns-then-size-eq0 g c =
    let m = g.S.CodeSpace.memory c.args.space.now in
    let le = c.requires in
    let ne = c.if-at-end.false in
    none_sized m c.args.end c.args.at c.in-Some.item (omega (arith, le, ne))
    (sym c.in-Some.ensures) (sym c.size-size.ensures ∙ c.if-size-eq0.true)

pub returns-then-end-at : goal.returns-then-end-at
returns-then-end-at g c =
    let m = g.S.CodeSpace.memory c.args.space.now in
    let le = c.requires in
    let ne = c.if-at-end.false in
    let z = c.size-size.ensures in
    let y = c.if-end-at.true in
    none_fits m c.args.end c.args.at c.in-Some.item (omega (arith, le, ne))
    (sym c.in-Some.ensures) (omega (arith, y, z))

pub returns-else-end-at : goal.returns-else-end-at
returns-else-end-at g c =
    let m = g.S.CodeSpace.memory c.args.space.now in
    let le = c.requires in
    let ne = c.if-at-end.false in
    let z = c.size-size.ensures in
    let some = c.if-size-eq0.false in
    let room = c.if-end-at.false in
    first_known m c.args.end c.args.at c.in-Some.item (omega (arith, le, ne))
    (sym c.in-Some.ensures) (omega (arith, z, some)) (omega (arith, z, room, le))
