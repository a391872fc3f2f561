use Rattle.std.proofs.Common.{◌≡◌, ◌+◌, ◌-◌, ◌++◌, ◌∷◌, true, false, length, get_or, take, drop, refl, sym, ap, ◌∙◌, arith}
use Rattle.std.proofs.lemmas.List.{take_rest}
use Rattle.template_code.specs.ColdParts.{part_code, side_from}
use Rattle.x64_emit.specs.Words.{body_size, code_room, label_list, labels_from, part_ranges, IsInstructionNear}
use Rattle.x64_emit.proofs.Nearby.{code_in_room}
use Rattle.x64_emit.proofs.Parts.{no_part, parts_after, all_between, room_split, hot_size_next, cold_size_next, labels_split, ranges_next, hot_last, cold_last, labels_end, parts_are, labels_added, range_added}
use Rattle.template_code.proofs.ColdParts.{parts_within}
use Rattle.x64_emit.proofs.body.labels_of.Goals as goal

pub between-ahead-requires-clause-within : goal.between-ahead-requires-clause-within
between-ahead-requires-clause-within c =
    let all = parts_after c.loop-part.from (length c.args.body.now) c.args.parts.now
    c.loop-part.part-index no_part c.loop-part.invariant.parts c.loop-part-test.true in
    let lt = all.1 in
    let le = parts_within (get_or c.args.parts.now c.loop-part.part-index no_part).end
    (length c.args.body.now) (drop (c.loop-part.part-index + 1) c.args.parts.now) all.2 in
    omega arith

pub put_labels-requires-clause-room : goal.put_labels-requires-clause-room
put_labels-requires-clause-room c =
    let body = c.args.body.now in
    let all = parts_after c.loop-part.from (length body) c.args.parts.now
    c.loop-part.part-index no_part c.loop-part.invariant.parts c.loop-part-test.true in
    let split = room_split c.loop-part.from
    (get_or c.args.parts.now c.loop-part.part-index no_part)
    (drop (c.loop-part.part-index + 1) c.args.parts.now) body all in
    let same = ap code_room c.between-ahead.ensures in
    let room = c.loop-part.invariant.room in
    omega arith

pub between-apart-requires-clause-within : goal.between-apart-requires-clause-within
between-apart-requires-clause-within c =
    let all = parts_after c.loop-part.from (length c.args.body.now) c.args.parts.now
    c.loop-part.part-index no_part c.loop-part.invariant.parts c.loop-part-test.true in
    parts_within (get_or c.args.parts.now c.loop-part.part-index no_part).end
    (length c.args.body.now) (drop (c.loop-part.part-index + 1) c.args.parts.now) all.2

pub put_labels-requires-in-loop-part-clause-room : goal.put_labels-requires-in-loop-part-clause-room
put_labels-requires-in-loop-part-clause-room c =
    let body = c.args.body.now in
    let all = parts_after c.loop-part.from (length body) c.args.parts.now
    c.loop-part.part-index no_part c.loop-part.invariant.parts c.loop-part-test.true in
    let split = room_split c.loop-part.from
    (get_or c.args.parts.now c.loop-part.part-index no_part)
    (drop (c.loop-part.part-index + 1) c.args.parts.now) body all in
    let same = ap code_room c.between-apart.ensures in
    let room = c.loop-part.invariant.cold_room in
    omega arith

pub loop-part-init : goal.loop-part-init
loop-part-init c = record {
  parts = c.requires.parts;
  starts = ap (λ xs. xs ++ label_list c.args.layout.now c.args.parts.now 0 c.args.hot c.args.cold
      c.args.body.now) c.in_ok-starts.ensures.items;
  ranges = ap (λ xs. xs ++ part_ranges c.args.layout.now c.args.cold c.args.parts.now
      c.args.body.now) c.new-ranges.ensures.items;
  end = refl;
  cold_end = refl;
  room = c.requires.hot;
  cold_room = c.requires.cold;
}

pub loop-part-preserved : goal.loop-part-preserved
loop-part-preserved c =
    let y = c.args.layout.now in
    let ps = c.args.parts.now in
    let i = c.loop-part.part-index in
    let from = c.loop-part.from in
    let hot = c.loop-part.end in
    let cold = c.loop-part.begin in
    let body = c.args.body.now in
    let r = get_or ps i no_part in
    let rs = drop (i + 1) ps in
    let ahead = take (r.begin - from) (drop from body) in
    let part = part_code body r in
    let rest = drop r.end body in
    let lt = c.loop-part-test.true in
    let inv = c.loop-part.invariant in
    let all = parts_after from (length body) ps i no_part inv.parts lt in
    let split = room_split from r rs body all in
    let same = c.between-ahead.ensures in
    let same' = c.between-apart.ensures in
    let near = IsInstructionNear y in
    let small = code_in_room y ahead (all_between near from r.begin body c.requires.near) in
    let small' = code_in_room y part (all_between near r.begin r.end body c.requires.near) in
    let room = inv.room in
    let cold_room = inv.cold_room in
    let sizes = ap (body_size y) same in
    let sizes' = ap (body_size y) same' in
    let there = c.in_ok-end.ensures.end in
    let there' = c.in_ok-next.ensures.end in
    let end : hot + body_size y ahead ≡ c.in_ok-end.end = omega arith in
    let next : cold + body_size y part ≡ c.in_ok-next.next = omega arith in
    let now = parts_are ps i lt in
    let hots = ap (λ qs. body_size y (side_from qs false from (drop from body))) now
    ∙ hot_size_next from r rs body all y in
    let colds = ap (λ qs. body_size y (side_from qs true from (drop from body))) now
    ∙ cold_size_next from r rs body all y in
    let inv_end = inv.end in
    let inv_cold_end = inv.cold_end in
    record {
      parts = all.2;
      starts = labels_added c.loop-part.starts.items c.put_labels.new.starts.items
          c.put_labels-in-loop-part.new.starts.items
          (labels_from y hot ahead) (labels_from y cold part)
          (label_list y rs r.end c.in_ok-end.end c.in_ok-next.next rest) _ _
          (c.in_ok-end.ensures.labels
          ∙ ap (λ is. c.loop-part.starts.items ++ labels_from y hot is) same)
          (c.in_ok-next.ensures.labels
          ∙ ap (λ is. c.put_labels.new.starts.items ++ labels_from y cold is) same')
          (ap (λ qs. label_list y qs from hot cold (drop from body)) now
          ∙ labels_split y from hot cold r rs body all
          ∙ (λ j. labels_from y hot ahead ++ (labels_from y cold part
          ++ label_list y rs r.end (end j) (next j) rest)))
          inv.starts;
      ranges = range_added c.loop-part.ranges.items c.push.new.self.items
          (record { begin = cold; end = c.in_ok-next.next })
          (part_ranges y c.in_ok-next.next rs body) _ _ c.in_ok-push.ensures.items
          (ranges_next y cold ps i no_part body lt
          ∙ (λ j. record { begin = cold; end = next j } ∷ part_ranges y (next j) rs body))
          inv.ranges;
      end = omega arith;
      cold_end = omega arith;
      room = omega arith;
      cold_room = omega arith;
    }

pub returns-clause-labels : goal.returns-clause-labels
returns-clause-labels c =
    let y = c.args.layout.now in
    let from = c.loop-part.from in
    let hot = c.loop-part.end in
    c.in_ok-end-2.ensures.labels
    ∙ ap (λ is. c.loop-part.starts.items ++ labels_from y hot is)
    (c.between-last.ensures ∙ take_rest c.args.body.now from)
    ∙ ap (λ xs. c.loop-part.starts.items ++ xs) (sym (labels_end y c.args.parts.now
    c.loop-part.part-index from hot c.loop-part.begin (drop from c.args.body.now)
    c.loop-part-test.false))
    ∙ c.loop-part.invariant.starts

pub returns-clause-end : goal.returns-clause-end
returns-clause-end c =
    let y = c.args.layout.now in
    let from = c.loop-part.from in
    let last = drop from c.args.body.now in
    let e = c.in_ok-end-2.ensures.end in
    let same = ap (body_size y) (c.between-last.ensures ∙ take_rest c.args.body.now from) in
    let h = ap (body_size y) (hot_last c.args.parts.now c.loop-part.part-index from last
    c.loop-part-test.false) in
    let i = c.loop-part.invariant.end in
    omega arith

pub returns-clause-cold_end : goal.returns-clause-cold_end
returns-clause-cold_end c =
    let y = c.args.layout.now in
    let from = c.loop-part.from in
    let h = ap (body_size y) (cold_last c.args.parts.now c.loop-part.part-index from
    (drop from c.args.body.now) c.loop-part-test.false) in
    let i = c.loop-part.invariant.cold_end in
    omega arith
