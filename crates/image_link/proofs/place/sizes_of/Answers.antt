use Rattle.std.proofs.Common.{ℕ, ◌+◌, [], ◌∷◌, ◌++◌, get_or, drop, map, ap, ◌∙◌, arith}
use Rattle.image_link.proofs.Lemmas.{all_at, label_added}
use Rattle.image_link.specs.Words.{RoutineView, IsRoutineNear, entry_size, body_size, hot_code, code_room}
use Rattle.image_link.proofs.Entries.{routine_small, room_next, entries_next, total_next}
use Rattle.image_link.proofs.place.sizes_of.Goals as goal

pub body_size_of-requires-clause-room : goal.body_size_of-requires-clause-room
body_size_of-requires-clause-room c =
    let rs = c.args.routines.now in
    let i = c.loop-routine.routine-index in
    let r = c.routine-item.result in
    let next = room_next rs i r c.loop-routine-test.true in
    let same = ap (λ (y : RoutineView). code_room y.body.code) c.routine-item.is in
    let room = c.loop-routine.invariant.room in
    omega arith

pub overflow_add-total : goal.overflow_add-total
overflow_add-total c =
    let rs = c.args.routines.now in
    let i = c.loop-routine.routine-index in
    let r = c.routine-item.result in
    let lt = c.loop-routine-test.true in
    let x = get_or rs i r in
    let entry = c.in_ok-entry.ensures.value ∙ ap entry_size c.routine-item.is in
    let body = c.in_ok-body.ensures
    ∙ ap (λ (y : RoutineView). body_size y.layout (hot_code y.body)) c.routine-item.is in
    let small = routine_small x (all_at IsRoutineNear rs i r c.requires.near lt) in
    let next = room_next rs i r lt in
    let room = c.loop-routine.invariant.room in
    omega arith

pub overflow_add-total-in-loop-routine : goal.overflow_add-total-in-loop-routine
overflow_add-total-in-loop-routine c =
    let rs = c.args.routines.now in
    let i = c.loop-routine.routine-index in
    let r = c.routine-item.result in
    let lt = c.loop-routine-test.true in
    let x = get_or rs i r in
    let entry = c.in_ok-entry.ensures.value ∙ ap entry_size c.routine-item.is in
    let body = c.in_ok-body.ensures
    ∙ ap (λ (y : RoutineView). body_size y.layout (hot_code y.body)) c.routine-item.is in
    let small = routine_small x (all_at IsRoutineNear rs i r c.requires.near lt) in
    let next = room_next rs i r lt in
    let room = c.loop-routine.invariant.room in
    omega arith

pub loop-routine-preserved : goal.loop-routine-preserved
loop-routine-preserved c =
    let rs = c.args.routines.now in
    let i = c.loop-routine.routine-index in
    let r = c.routine-item.result in
    let lt = c.loop-routine-test.true in
    let x = get_or rs i r in
    let near = all_at IsRoutineNear rs i r c.requires.near lt in
    let entry = c.in_ok-entry.ensures.value ∙ ap entry_size c.routine-item.is in
    let body = c.in_ok-body.ensures
    ∙ ap (λ (y : RoutineView). body_size y.layout (hot_code y.body)) c.routine-item.is in
    let small = routine_small x near in
    let next = room_next rs i r lt in
    let sums = total_next rs i r lt in
    let room = c.loop-routine.invariant.room in
    let sum = c.loop-routine.invariant.total in
    record {
      entries = label_added c.loop-routine.entries.items c.push.new.self.items _
          (map entry_size (drop (i + 1) rs)) _ (entry_size x)
          (c.in_ok-push.ensures.items
          ∙ ap (λ (n : ℕ). c.loop-routine.entries.items ++ n ∷ []) entry)
          (entries_next rs i r lt) c.loop-routine.invariant.entries;
      total = omega arith;
      room = omega arith;
    }
