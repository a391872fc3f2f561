use Rattle.std.proofs.Common.{ap, arith}
use Rattle.image_link.specs.Words.{code_room, RoutineView}
use Rattle.image_link.proofs.place.labels_from.Goals as goal

pub labels_of-requires-clause-hot : goal.labels_of-requires-clause-hot
labels_of-requires-clause-hot c =
    let b = ap code_room c.code.ensures in
    let v = ap (λ (r : RoutineView). code_room r.body.code) c.routine.view_is in
    let r = c.requires.room in
    omega arith

pub labels_of-requires-clause-cold : goal.labels_of-requires-clause-cold
labels_of-requires-clause-cold c =
    let b = ap code_room c.code.ensures in
    let v = ap (λ (r : RoutineView). code_room r.body.code) c.routine.view_is in
    let r = c.requires.cold in
    omega arith
