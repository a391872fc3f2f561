use Rattle.std.proofs.Common.{◌≡◌, ℕ, ◌+◌, ◌-◌, ◌++◌, false, length, get_or, take, drop, sym, ap, ◌∙◌, arith}
use Rattle.std.proofs.lemmas.List.{take_rest}
use Rattle.template_code.specs.ColdParts.{side_from}
use Rattle.x64_emit.specs.Words.{body_size, code_room, code_from, spelled, links_of, IsInstructionNear}
use Rattle.x64_emit.proofs.Nearby.{code_in_room, stepped}
use Rattle.x64_emit.proofs.Parts.{no_part, parts_after, all_between, room_split, hot_code_next, hot_last, parts_are}
use Rattle.template_code.proofs.ColdParts.{parts_within}
use Rattle.x64_emit.proofs.body.put_hot.Goals as goal

pub between-ahead-requires-clause-within : goal.between-ahead-requires-clause-within
between-ahead-requires-clause-within c =
    let all = parts_after c.loop-part.from (length c.args.body.now) c.args.parts.now
    c.loop-part.part-index no_part c.loop-part.invariant.parts c.loop-part-test.true in
    let lt = all.1 in
    let le = parts_within (get_or c.args.parts.now c.loop-part.part-index no_part).end
    (length c.args.body.now) (drop (c.loop-part.part-index + 1) c.args.parts.now) all.2 in
    omega arith

pub put_stretch-requires-clause-room : goal.put_stretch-requires-clause-room
put_stretch-requires-clause-room c =
    let body = c.args.body.now in
    let all = parts_after c.loop-part.from (length body) c.args.parts.now
    c.loop-part.part-index no_part c.loop-part.invariant.parts c.loop-part-test.true in
    let split = room_split c.loop-part.from
    (get_or c.args.parts.now c.loop-part.part-index no_part)
    (drop (c.loop-part.part-index + 1) c.args.parts.now) body all in
    let same = ap code_room c.between-ahead.ensures in
    let room = c.loop-part.invariant.room in
    omega arith

pub loop-part-preserved : goal.loop-part-preserved
loop-part-preserved c =
    let y = c.args.layout.now in
    let k = links_of c.args.links.now in
    let ps = c.args.parts.now in
    let i = c.loop-part.part-index in
    let from = c.loop-part.from in
    let at = c.loop-part.at in
    let body = c.args.body.now in
    let r = get_or ps i no_part in
    let rs = drop (i + 1) ps in
    let ahead = take (r.begin - from) (drop from body) in
    let rest = side_from rs false r.end (drop r.end body) in
    let all = parts_after from (length body) ps i no_part c.loop-part.invariant.parts
    c.loop-part-test.true in
    let split = room_split from r rs body all in
    let same = c.between-ahead.ensures in
    let small = code_in_room y ahead
    (all_between (IsInstructionNear y) from r.begin body c.requires.near) in
    let room = c.loop-part.invariant.room in
    let sizes = ap (body_size y) same in
    let there = c.in_ok-at.ensures.end in
    let end : at + body_size y ahead ≡ c.in_ok-at.at = omega arith in
    record {
      parts = all.2;
      code = stepped c.loop-part.code.items c.put_stretch.new.code.items _
          (code_from k y at ahead) (code_from k y c.in_ok-at.at rest) _
          (c.in_ok-at.ensures.code
          ∙ ap (λ is. c.loop-part.code.items ++ spelled (code_from k y at is)) same)
          (ap (λ qs. code_from k y at (side_from qs false from (drop from body)))
          (parts_are ps i c.loop-part-test.true) ∙ hot_code_next from r rs body all k y at
          ∙ ap (λ (n : ℕ). code_from k y at ahead ++ code_from k y n rest) end)
          c.loop-part.invariant.code;
      room = omega arith;
    }

pub returns : goal.returns
returns c =
    let y = c.args.layout.now in
    let k = links_of c.args.links.now in
    let body = c.args.body.now in
    let from = c.loop-part.from in
    let at = c.loop-part.at in
    let same = c.between-last.ensures ∙ take_rest body from
    ∙ sym (hot_last c.args.parts.now c.loop-part.part-index from (drop from body)
    c.loop-part-test.false) in
    c.in_ok-put_stretch.ensures.code
    ∙ ap (λ is. c.loop-part.code.items ++ spelled (code_from k y at is)) same
    ∙ c.loop-part.invariant.code
