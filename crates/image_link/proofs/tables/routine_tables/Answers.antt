use Rattle.std.proofs.Common.{◌≡◌, ℕ, ◌+◌, ◌++◌, length, get_or, drop, refl, sym, ap, ◌∙◌, arith, length-append}
use Rattle.image_link.specs.Words.{total, IsRoutineNear, RoutineView, PlaceView, place_at, places_from, routine_size, cold_size, info_bytes, infos, range_of, ranges, fragments_of, fragments}
use Rattle.image_link.proofs.Entries.{appended, cold_after, cold_after_next, cold_after_first}
use Rattle.image_link.proofs.Infos.{info_small, fragments_few, infos_next, ranges_next, fragments_next, infos_room_next}
use Rattle.image_link.proofs.Lemmas.{all_at}
use Rattle.image_link.proofs.Places.{places_next, first_is, rest_is}
use Rattle.image_link.proofs.tables.routine_tables.Goals as goal

pub loop-routine-init : goal.loop-routine-init
loop-routine-init c =
    let s = c.args.site.now in
    let rs = c.args.routines.now in
    let at = c.args.first in
    let e = cold_after_first (at + total rs) rs in
    let none = c.new-infos.ensures.items in
    let no_ranges = c.new-ranges.ensures.items in
    let no_parts = c.new-fragments.ensures.items in
    let long = ap length none in
    let long' = ap length no_parts in
    let info : c.args.xdata_at + length c.new-infos.result.items ≡ c.args.xdata_at = omega arith in
    record {
      infos = λ j. none j ++ infos s at (e j) rs;
      entries = λ j. no_ranges j ++ ranges s (info j) at (e j) rs;
      parts = λ j. no_parts j ++ fragments s (info j) at (e j) rs;
      index = refl;
      left = c.requires.places ∙ sym (ap (λ (n : ℕ). places_from at n rs) e);
      small = omega arith;
    }

pub put_routine-requires-clause-placed : goal.put_routine-requires-clause-placed
put_routine-requires-clause-placed c =
    let rs = c.args.routines.now in
    let i = c.loop-routine.routine-index in
    let r = c.routine-item.result in
    let x = get_or rs i r in
    let at = c.loop-routine.at in
    let cold = cold_after (c.args.first + total rs) rs i in
    let is = c.index-places-index.is ∙ first_is c.args.places.now
    (places_from (at + routine_size x) (cold + cold_size x) (drop (i + 1) rs))
    c.loop-routine.index (place_at at cold x) c.index-places-index.result
    (c.loop-routine.invariant.left ∙ places_next at cold rs i r c.loop-routine-test.true) in
    let begin = ap (λ (p : PlaceView). p.cold) is in
    let same = c.routine-item.is in
    is ∙ sym (λ j. place_at at (begin j) (same j))

pub loop-routine-preserved : goal.loop-routine-preserved
loop-routine-preserved c =
    let s = c.args.site.now in
    let rs = c.args.routines.now in
    let ps = c.args.places.now in
    let i = c.loop-routine.routine-index in
    let r = c.routine-item.result in
    let lt = c.loop-routine-test.true in
    let x = get_or rs i r in
    let rest = drop (i + 1) rs in
    let at = c.loop-routine.at in
    let behind = c.args.first + total rs in
    let cold = cold_after behind rs i in
    let old = c.loop-routine.infos.items in
    let new = c.put_routine.new.xdata.items in
    let parts = c.loop-routine.fragments.items in
    let same = c.routine-item.is in
    let info = c.args.xdata_at + length old in
    let inv = c.loop-routine.invariant in
    let left = inv.left ∙ places_next at cold rs i r lt in
    let more = places_from (at + routine_size x) (cold + cold_size x) rest in
    let is = c.index-places-index.is ∙ first_is ps more c.loop-routine.index
    (place_at at cold x) c.index-places-index.result left in
    let begin = ap (λ (p : PlaceView). p.cold) is in
    let end : c.place.inside.labels.end ≡ at + routine_size x =
    ap (λ (p : PlaceView). p.end) (c.place.view_is ∙ is) in
    let cold' = cold_after_next behind rs i r lt in
    let grew : new ≡ old ++ info_bytes s at cold x = c.in_ok-put_routine.ensures.infos
    ∙ (λ j. old ++ info_bytes s at (begin j) (same j)) in
    let grown : c.put_routine.new.fragments.items ≡ parts ++ fragments_of info at cold x =
    c.in_ok-put_routine.ensures.fragments
    ∙ (λ j. parts ++ fragments_of info at (begin j) (same j)) in
    let longer = ap length grew in
    let longer' = ap length grown in
    let there : c.args.xdata_at + length new ≡ info + length (info_bytes s at cold x) =
    omega (arith, length-append old (info_bytes s at cold x)) in
    let few = info_small s at cold x (all_at IsRoutineNear rs i r c.requires.near lt) in
    let few' = fragments_few info at cold x in
    let next' = infos_room_next rs i r lt in
    let small = inv.small in
    let index = inv.index in
    record {
      infos = appended old new _ (info_bytes s at cold x)
          (infos s c.place.inside.labels.end (cold_after behind rs (i + 1)) rest) _
          grew (infos_next s at cold rs i r lt
          ∙ sym (λ j. info_bytes s at cold x ++ infos s (end j) (cold' j) rest)) inv.infos;
      entries = appended c.loop-routine.ranges.items c.put_routine.new.ranges.items _
          (range_of info at x) (ranges s (c.args.xdata_at + length new) c.place.inside.labels.end
          (cold_after behind rs (i + 1)) rest) _
          (c.in_ok-put_routine.ensures.ranges ∙ ap (λ (y : RoutineView). c.loop-routine.ranges.items
          ++ range_of info at y) same)
          (ranges_next s info at cold rs i r lt
          ∙ sym (λ j. range_of info at x ++ ranges s (there j) (end j) (cold' j) rest))
          inv.entries;
      parts = appended parts c.put_routine.new.fragments.items _
          (fragments_of info at cold x)
          (fragments s (c.args.xdata_at + length new) c.place.inside.labels.end
          (cold_after behind rs (i + 1)) rest) _ grown
          (fragments_next s info at cold rs i r lt
          ∙ sym (λ j. fragments_of info at cold x ++ fragments s (there j) (end j) (cold' j) rest))
          inv.parts;
      index = omega arith;
      left = rest_is ps more c.loop-routine.index (place_at at cold x) left
          ∙ sym (λ j. places_from (end j) (cold' j) rest);
      small = omega (
        arith,
        length-append old (info_bytes s at cold x),
        length-append parts (fragments_of info at cold x),
      );
    }
