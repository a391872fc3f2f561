use Rattle.std.proofs.Common.{◌+◌, length, get_or, drop, sym, ap, subst, arith}
use Rattle.std.specs.List.{AllByRecursion}
use Rattle.template_code.specs.ColdParts.{part_code}
use Rattle.template_code.proofs.ColdParts.{body_size_both}
use Rattle.x64_emit.specs.Words.{body_size, code_room, IsInstructionNear}
use Rattle.x64_emit.proofs.Nearby.{code_in_room}
use Rattle.x64_emit.proofs.Parts.{no_part, parts_code, parts_are_cold, parts_next, part_within, all_between, room_both, cold_room}
use Rattle.x64_emit.proofs.body.cold_size.Goals as goal

pub loop-part-init : goal.loop-part-init
loop-part-init c =
    let body = c.args.body.now in
    let ps = c.args.parts.now in
    let e = ap (body_size c.args.layout.now) (parts_are_cold 0 ps body c.requires.parts) in
    let r = cold_room ps body c.requires.parts in
    let near = c.requires.room in
    record { total = omega arith; room = omega arith }

pub between-stretch-requires-clause-order : goal.between-stretch-requires-clause-order
between-stretch-requires-clause-order c =
    let lt = (part_within 0 (length c.args.body.now) c.args.parts.now c.loop-part.part-index no_part
    c.requires.parts c.loop-part-test.true).0 in
    omega arith

pub between-stretch-requires-clause-within : goal.between-stretch-requires-clause-within
between-stretch-requires-clause-within c =
    (part_within 0 (length c.args.body.now) c.args.parts.now c.loop-part.part-index no_part
    c.requires.parts c.loop-part-test.true).1

pub stretch_size-requires-clause-near : goal.stretch_size-requires-clause-near
stretch_size-requires-clause-near c =
    let r = get_or c.args.parts.now c.loop-part.part-index no_part in
    let near = IsInstructionNear c.args.layout.now in
    subst (AllByRecursion near) (sym c.between-stretch.ensures)
    (all_between near r.begin r.end c.args.body.now c.requires.near)

pub stretch_size-requires-clause-room : goal.stretch_size-requires-clause-room
stretch_size-requires-clause-room c =
    let ps = c.args.parts.now in
    let i = c.loop-part.part-index in
    let body = c.args.body.now in
    let r = get_or ps i no_part in
    let next = ap code_room (parts_next ps i no_part body c.loop-part-test.true) in
    let both = room_both (part_code body r) (parts_code (drop (i + 1) ps) body) in
    let same = ap code_room c.between-stretch.ensures in
    let room = c.loop-part.invariant.room in
    omega arith

pub overflow_add-total : goal.overflow_add-total
overflow_add-total c =
    let y = c.args.layout.now in
    let ps = c.args.parts.now in
    let i = c.loop-part.part-index in
    let body = c.args.body.now in
    let r = get_or ps i no_part in
    let next = ap code_room (parts_next ps i no_part body c.loop-part-test.true) in
    let both = room_both (part_code body r) (parts_code (drop (i + 1) ps) body) in
    let same = ap (body_size y) c.between-stretch.ensures in
    let small = code_in_room y (part_code body r)
    (all_between (IsInstructionNear y) r.begin r.end body c.requires.near) in
    let room = c.loop-part.invariant.room in
    let size = c.in_ok-size.ensures in
    omega arith

pub loop-part-preserved : goal.loop-part-preserved
loop-part-preserved c =
    let y = c.args.layout.now in
    let ps = c.args.parts.now in
    let i = c.loop-part.part-index in
    let body = c.args.body.now in
    let r = get_or ps i no_part in
    let rest = parts_code (drop (i + 1) ps) body in
    let all = parts_next ps i no_part body c.loop-part-test.true in
    let rooms = ap code_room all in
    let sizes = ap (body_size y) all in
    let both = room_both (part_code body r) rest in
    let both' = body_size_both y (part_code body r) rest in
    let same = ap (body_size y) c.between-stretch.ensures in
    let small = code_in_room y (part_code body r)
    (all_between (IsInstructionNear y) r.begin r.end body c.requires.near) in
    let room = c.loop-part.invariant.room in
    let total = c.loop-part.invariant.total in
    let size = c.in_ok-size.ensures in
    record { total = omega arith; room = omega arith }
