use Rattle.std.proofs.Common.{◌≡◌, ◌+◌, ◌++◌, get_or, drop, refl, sym, ap, ◌∙◌, arith}
use Rattle.image_link.proofs.Bounds.{total_small}
use Rattle.image_link.proofs.Lemmas.{all_at}
use Rattle.image_link.specs.Words.{spelled, front_code, SiteView, IsRoutineNear, PlaceView, places_from, place_at, routine_size, cold_size, total, first_routine_at, routine_bytes, routines_bytes, apart_bytes, all_apart_bytes}
use Rattle.image_link.proofs.Entries.{routine_small, room_next, text_next, apart_next, appended, cold_after, cold_after_next, cold_after_first}
use Rattle.image_link.proofs.Places.{places_next, first_is, rest_is}
use Rattle.image_link.proofs.text.text_of.Goals as goal

pub loop-routine-init : goal.loop-routine-init
loop-routine-init c =
    let s = c.args.site.now in
    let rs = c.args.routines.now in
    let begin = first_routine_at s.imports s.text in
    let t = total_small rs c.requires.near in
    let e = cold_after_first (begin + total rs) rs in
    let room = c.requires.room in
    let front = spelled (front_code s.imports s.text s.rdata) in
    let at : c.site.inside.text + c.front_size.result ≡ begin =
    (λ j. c.site.inside.text + c.front_size.ensures.value j)
    ∙ ap (λ (v : SiteView). first_routine_at v.imports v.text) c.site.view_is in
    let put : c.put_front.new.code.items ≡ front = c.in_ok-put_front.ensures
    ∙ (λ j. c.new-code.ensures.items j ++ spelled (front_code (c.site.view_is j).imports
    (c.site.view_is j).text (c.site.view_is j).rdata)) in
    record {
      done = λ j. put j ++ routines_bytes s (at j) (e j) rs;
      parts = λ j. c.new-apart.ensures.items j ++ all_apart_bytes s (at j) (e j) rs;
      index = refl;
      left = c.requires.places ∙ sym (λ j. places_from (at j) (e j) rs);
      room = omega arith;
      cold_room = omega arith;
    }

pub loop-routine-preserved : goal.loop-routine-preserved
loop-routine-preserved c =
    let s = c.args.site.now in
    let rs = c.args.routines.now in
    let ps = c.args.places.now in
    let i = c.loop-routine.routine-index in
    let r = c.routine-item.result in
    let lt = c.loop-routine-test.true in
    let x = get_or rs i r in
    let rest = drop (i + 1) rs in
    let near = all_at IsRoutineNear rs i r c.requires.near lt in
    let at = c.loop-routine.at in
    let behind = first_routine_at s.imports s.text + total rs in
    let cold = cold_after behind rs i in
    let same = c.routine-item.is in
    let inv = c.loop-routine.invariant in
    let left = inv.left ∙ places_next at cold rs i r lt in
    let more = places_from (at + routine_size x) (cold + cold_size x) rest in
    let is = c.index-places-index.is ∙ first_is ps more c.loop-routine.index
    (place_at at cold x) c.index-places-index.result left in
    let begin = ap (λ (p : PlaceView). p.cold) is in
    let end : c.place.inside.labels.end ≡ at + routine_size x =
    ap (λ (p : PlaceView). p.end) (c.place.view_is ∙ is) in
    let cold' = cold_after_next behind rs i r lt in
    let small = routine_small x near in
    let next = room_next rs i r lt in
    let room = inv.room in
    let cold_room = inv.cold_room in
    let index = inv.index in
    record {
      done = appended c.loop-routine.code.items c.put_routine.new.code.items _
          (routine_bytes s at cold x)
          (routines_bytes s c.place.inside.labels.end (cold_after behind rs (i + 1)) rest) _
          (c.in_ok-put_routine.ensures.code
          ∙ (λ j. c.loop-routine.code.items ++ routine_bytes s at (begin j) (same j)))
          (text_next s at cold rs i r lt
          ∙ sym (λ j. routine_bytes s at cold x ++ routines_bytes s (end j) (cold' j) rest))
          inv.done;
      parts = appended c.loop-routine.apart.items c.put_routine.new.apart.items _
          (apart_bytes s at cold x)
          (all_apart_bytes s c.place.inside.labels.end (cold_after behind rs (i + 1)) rest) _
          (c.in_ok-put_routine.ensures.apart
          ∙ (λ j. c.loop-routine.apart.items ++ apart_bytes s at (begin j) (same j)))
          (apart_next s at cold rs i r lt
          ∙ sym (λ j. apart_bytes s at cold x ++ all_apart_bytes s (end j) (cold' j) rest))
          inv.parts;
      index = omega arith;
      left = rest_is ps more c.loop-routine.index (place_at at cold x) left
          ∙ sym (λ j. places_from (end j) (cold' j) rest);
      room = omega arith;
      cold_room = omega arith;
    }
