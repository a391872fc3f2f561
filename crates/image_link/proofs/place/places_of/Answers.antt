use Rattle.std.proofs.Common.{arith}
use Rattle.image_link.proofs.Bounds.{total_small}
use Rattle.image_link.proofs.place.places_of.Goals as goal

pub overflow_add-start : goal.overflow_add-start
overflow_add-start c =
    let t = total_small c.args.routines.now c.requires.near in
    let e = c.in_ok-sizes.ensures.total in
    let r = c.requires.room in
    omega arith

pub places_at-requires-clause-cold : goal.places_at-requires-clause-cold
places_at-requires-clause-cold c =
    let t = total_small c.args.routines.now c.requires.near in
    let e = c.in_ok-sizes.ensures.total in
    let r = c.requires.room in
    omega arith
