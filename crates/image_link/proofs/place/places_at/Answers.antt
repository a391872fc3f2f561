use Rattle.std.proofs.Common.{◌≡◌, ℕ, ◌+◌, List, [], ◌∷◌, ◌++◌, length, get_or, drop, sym, ap, ◌∙◌, arith}
use Rattle.std.proofs.lemmas.List.{get_or-map, length-map}
use Rattle.image_link.proofs.Lemmas.{all_at, label_added}
use Rattle.image_link.specs.Words.{RoutineView, IsRoutineNear, PlaceView, place_at, places_from, bounds, entry_size, routine_size, cold_size, routine_room}
use Rattle.image_link.proofs.Entries.{routine_small, room_next, bounds_next, cold_total_next, appended}
use Rattle.image_link.proofs.Places.{places_next}
use Rattle.image_link.proofs.place.places_at.Goals as goal

pub bounds-entries-index : goal.bounds-entries-index
bounds-entries-index c =
    let l = ap length c.requires.entries in
    let m = length-map c.args.routines.now entry_size in
    let lt = c.loop-routine-test.true in
    let i = c.loop-routine.invariant.index in
    omega arith

pub place_of-requires-clause-entry : goal.place_of-requires-clause-entry
place_of-requires-clause-entry c =
    let rs = c.args.routines.now in
    let i = c.loop-routine.routine-index in
    let r = c.routine-item.result in
    ap (λ (k : ℕ). get_or c.args.entries.now k 0) c.loop-routine.invariant.index
    ∙ ap (λ (es : List ℕ). get_or es i 0) c.requires.entries
    ∙ get_or-map entry_size rs i r 0 c.loop-routine-test.true
    ∙ sym (ap entry_size c.routine-item.is)

pub place_of-requires-clause-room : goal.place_of-requires-clause-room
place_of-requires-clause-room c =
    let rs = c.args.routines.now in
    let i = c.loop-routine.routine-index in
    let next = room_next rs i c.routine-item.result c.loop-routine-test.true in
    let same = ap routine_room c.routine-item.is in
    let room = c.loop-routine.invariant.room in
    omega arith

pub place_of-requires-clause-cold : goal.place_of-requires-clause-cold
place_of-requires-clause-cold c =
    let rs = c.args.routines.now in
    let i = c.loop-routine.routine-index in
    let next = room_next rs i c.routine-item.result c.loop-routine-test.true in
    let same = ap routine_room c.routine-item.is in
    let room = c.loop-routine.invariant.cold_room in
    omega arith

pub loop-routine-preserved : goal.loop-routine-preserved
loop-routine-preserved c =
    let rs = c.args.routines.now in
    let i = c.loop-routine.routine-index in
    let r = c.routine-item.result in
    let lt = c.loop-routine-test.true in
    let x = get_or rs i r in
    let near = all_at IsRoutineNear rs i r c.requires.near lt in
    let at = c.loop-routine.at in
    let cold = c.loop-routine.end in
    let placed = c.in_ok-place.ensures
    ∙ ap (λ (y : RoutineView). place_at at cold y) c.routine-item.is in
    let end : c.place.inside.labels.end ≡ at + routine_size x =
    ap (λ (p : PlaceView). p.end) (c.place.view_is ∙ placed) in
    let cold_end : c.place.inside.labels.cold_end ≡ cold + cold_size x =
    ap (λ (p : PlaceView). p.cold_end) (c.place.view_is ∙ placed) in
    let small = routine_small x near in
    let next = room_next rs i r lt in
    let sums = cold_total_next rs i r lt in
    let inv = c.loop-routine.invariant in
    let room = inv.room in
    let cold_room = inv.cold_room in
    let sum = inv.end in
    let same = inv.index in
    record {
      bounds = label_added c.loop-routine.bounds.items c.push.new.self.items _
          (bounds c.place.inside.labels.end (drop (i + 1) rs)) _ at c.in_ok-push.ensures.items
          (bounds_next at rs i r lt ∙ ap (λ (n : ℕ). at ∷ bounds n (drop (i + 1) rs)) (sym end))
          inv.bounds;
      each = appended c.loop-routine.each.items c.push-in-loop-routine.new.self.items _
          (place_at at cold x ∷ [])
          (places_from c.place.inside.labels.end c.place.inside.labels.cold_end
          (drop (i + 1) rs)) _
          (c.in_ok-push-2.ensures.items
          ∙ ap (λ (p : PlaceView). c.loop-routine.each.items ++ p ∷ []) placed)
          (places_next at cold rs i r lt
          ∙ sym (λ j. place_at at cold x ∷ places_from (end j) (cold_end j) (drop (i + 1) rs)))
          inv.each;
      end = omega arith;
      index = omega arith;
      room = omega arith;
      cold_room = omega arith;
    }
