use Rattle.std.proofs.Common.{◌++◌, length, ap, ◌∙◌, arith}
use Rattle.template_code.specs.Operations.{before, work}
use Rattle.x64_emit.proofs.Lemmas.{sizes_spelled, sizes_append}
use Rattle.x64_emit.proofs.Nearby.{operation_room_small}
use Rattle.x64_emit.proofs.Rooms as rooms
use Rattle.x64_emit.proofs.sizes.operation_size.Goals as goal

pub overflow_cast-result : goal.overflow_cast-result
overflow_cast-result c =
    let o = c.args.operation in
    let e = ap length c.in-Some.ensures in
    let s = sizes_spelled (before o ++ work o) in
    let a = sizes_append (before o) (work o) in
    let r = rooms.operation_size o in
    let m = operation_room_small o in
    omega arith

pub returns-in-Some-clause-value : goal.returns-in-Some-clause-value
returns-in-Some-clause-value c =
    let o = c.args.operation in ap length c.in-Some.ensures ∙ sizes_spelled (before o ++ work o)

pub returns-in-Some-clause-small : goal.returns-in-Some-clause-small
returns-in-Some-clause-small c =
    let o = c.args.operation in
    let e = ap length c.in-Some.ensures in
    let s = sizes_spelled (before o ++ work o) in
    let a = sizes_append (before o) (work o) in
    let r = rooms.operation_size o in
    let m = operation_room_small o in
    omega arith
