use Rattle.std.proofs.Common.{◌≡◌, take, add-one, arith}
use Rattle.std.proofs.lemmas.List.{take_all}
use Rattle.vectored_list.proofs.Places.{not_listed_so_far, listed_at, removed_at, removed_none}
use Rattle.vectored_list.proofs.VectoredList.remove.Goals as goal

pub returns-then-deref-place-clause-answer : goal.returns-then-deref-place-clause-answer
returns-then-deref-place-clause-answer c =
    grind (arith, listed_at c.args.handler c.loop-place.self-inside.items.items c.loop-place.place)

pub returns-then-deref-place-clause-list : goal.returns-then-deref-place-clause-list
returns-then-deref-place-clause-list c =
    grind (arith, removed_at c.args.handler c.loop-place.self-inside.items.items c.loop-place.place)

pub loop-place-preserved : goal.loop-place-preserved
loop-place-preserved c = (
  c.loop-place.invariant.0,
  rw add-one
      (grind (
        arith,
        not_listed_so_far c.args.handler c.loop-place.self-inside.items.items
            c.loop-place.place,
      )),
)

pub returns-clause-list : goal.returns-clause-list
returns-clause-list c =
    let n = c.loop-place.place in
    let xs = c.loop-place.self-inside.items.items in
    let all : take n xs ≡ xs = grind (arith, take_all n xs) in
    grind (arith, removed_none c.args.handler xs)
